use Rattle.std.proofs.Common.{refl, ap, ◌∙◌}
use Rattle.std.specs.Prelude.{Some}
use Rattle.coda_cache.specs.State.{CacheState}
use Rattle.coda_cache.specs.Steps.{under, moved_under}
use Rattle.coda_cache.proofs.Agreeing.{agree_same, agree_altered}
use Rattle.coda_cache.proofs.contents.Contents.move_under.Goals as goal

pub invariant_of-self : goal.invariant_of-self
invariant_of-self c =
    record {
      agree = agree_same _ c.self.inside.nodes _ c.move_under.new.self _ c.self.inside.recency refl c.move_under.ensures refl
          (agree_altered c.self.inside.nodes c.self.inside.holds c.self.inside.recency c.self.invariant.agree c.args.fid (under c.args.dir));
      small = c.self.invariant.small;
    }

pub returns : goal.returns
returns c =
    (λ i. record { size = c.self.inside.size; nodes = c.self.inside.nodes; holds = c.move_under.ensures i; recency = c.self.inside.recency; priorities = c.self.inside.priorities })
    ∙ ap (λ (s : CacheState). moved_under (Some (c.args.fid, c.args.dir)) s) c.self.view_is
