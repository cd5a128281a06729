use Rattle.std.proofs.Common.{refl, ap, ◌∙◌}
use Rattle.coda_cache.specs.State.{CacheState}
use Rattle.coda_cache.specs.Steps.{set_dirty, marked}
use Rattle.coda_cache.proofs.Agreeing.{agree_same, agree_altered}
use Rattle.coda_cache.proofs.contents.Contents.mark.Goals as goal

pub invariant_of-self : goal.invariant_of-self
invariant_of-self c =
    record {
      agree = agree_same _ c.self.inside.nodes _ c.set_dirty.new.self _ c.self.inside.recency refl c.set_dirty.ensures refl
          (agree_altered c.self.inside.nodes c.self.inside.holds c.self.inside.recency c.self.invariant.agree c.args.fid (set_dirty c.args.dirty));
      small = c.self.invariant.small;
    }

pub returns : goal.returns
returns c =
    (λ i. record { size = c.self.inside.size; nodes = c.self.inside.nodes; holds = c.set_dirty.ensures i; recency = c.self.inside.recency; priorities = c.self.inside.priorities })
    ∙ ap (λ (s : CacheState). marked s c.args.fid c.args.dirty) c.self.view_is
