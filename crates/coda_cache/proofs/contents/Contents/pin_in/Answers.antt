use Rattle.std.proofs.Common.{sym, subst}
use Rattle.coda_cache.specs.State.{Holds}
use Rattle.coda_cache.specs.Steps.{dirty_in}
use Rattle.coda_cache.specs.Keeping.{Agree}
use Rattle.coda_cache.proofs.Written.{agree_each}
use Rattle.coda_cache.proofs.contents.Contents.pin_in.Goals as goal

pub invariant_of-self : goal.invariant_of-self
invariant_of-self c =
    record {
      agree = subst (λ (h : Holds). Agree c.self.inside.nodes h c.self.inside.recency) (sym c.pin_in.ensures)
          (agree_each c.self.inside.nodes c.self.inside.holds c.self.inside.recency c.self.invariant.agree (dirty_in c.args.volume c.args.fids.now));
      small = c.self.invariant.small;
    }
