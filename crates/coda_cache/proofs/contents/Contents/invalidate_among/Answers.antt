use Rattle.std.proofs.Common.{sym, subst}
use Rattle.coda_cache.specs.State.{Holds}
use Rattle.coda_cache.specs.Steps.{valid_but_from}
use Rattle.coda_cache.specs.Keeping.{Agree}
use Rattle.coda_cache.proofs.Written.{agree_each}
use Rattle.coda_cache.proofs.contents.Contents.invalidate_among.Goals as goal

pub invariant_of-self : goal.invariant_of-self
invariant_of-self c =
    record {
      agree = subst (λ (h : Holds). Agree c.self.inside.nodes h c.self.inside.recency) (sym c.invalidate_among.ensures)
          (agree_each c.self.inside.nodes c.self.inside.holds c.self.inside.recency c.self.invariant.agree (valid_but_from c.args.volume c.args.server));
      small = c.self.invariant.small;
    }
