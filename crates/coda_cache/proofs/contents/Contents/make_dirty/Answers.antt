use Rattle.std.proofs.Common.{refl, ap, ◌∙◌}
use Rattle.coda_cache.specs.State.{CacheState}
use Rattle.coda_cache.specs.Steps.{dirtied}
use Rattle.coda_cache.proofs.Agreeing.{agree_same}
use Rattle.coda_cache.proofs.Operated.{agree_dirty}
use Rattle.coda_cache.proofs.contents.Contents.make_dirty.Goals as goal

pub invariant_of-self : goal.invariant_of-self
invariant_of-self c =
    record {
      agree = agree_same _ c.self.inside.nodes _ c.make_all_dirty.new.self _ c.self.inside.recency refl c.make_all_dirty.ensures refl
          (agree_dirty c.self.inside.nodes c.self.inside.holds c.self.inside.recency c.args.fids.now c.self.invariant.agree);
      small = c.self.invariant.small;
    }

pub returns : goal.returns
returns c =
    (λ i. record { size = c.self.inside.size; nodes = c.self.inside.nodes; holds = c.make_all_dirty.ensures i; recency = c.self.inside.recency; priorities = c.self.inside.priorities })
    ∙ ap (λ (s : CacheState). dirtied s c.args.fids.now) c.self.view_is
