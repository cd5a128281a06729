use Rattle.std.proofs.Common.{sym, subst}
use Rattle.coda_net.specs.Pool.{Letters, AreKept}
use Rattle.coda_net.proofs.Kept.{kept_lost}
use Rattle.coda_net.proofs.net.Net.lose.Goals as goal

pub invariant_of-self : goal.invariant_of-self
invariant_of-self c = subst (λ (ls : Letters). AreKept ls c.self.inside.posted) (sym c.shift_remove.ensures.entries) (kept_lost c.self.inside.letters.entries c.self.inside.posted c.args.number c.self.invariant)
