use Rattle.std.proofs.Common.{sym, subst}
use Rattle.coda_cache.specs.State.{Holds}
use Rattle.coda_cache.specs.Steps.{not_valid}
use Rattle.coda_cache.specs.Keeping.{Agree}
use Rattle.coda_cache.proofs.Agreeing.{agree_altered}
use Rattle.coda_cache.proofs.contents.Contents.invalidate.Goals as goal

pub invariant_of-self : goal.invariant_of-self
invariant_of-self c =
    record {
      agree = subst (λ (h : Holds). Agree c.self.inside.nodes h c.self.inside.recency) (sym c.invalidate.ensures)
          (agree_altered c.self.inside.nodes c.self.inside.holds c.self.inside.recency c.self.invariant.agree c.args.fid not_valid);
      small = c.self.invariant.small;
    }
