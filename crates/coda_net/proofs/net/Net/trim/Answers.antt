use Rattle.std.proofs.Common.{sym, subst}
use Rattle.coda_net.specs.Pool.{Letters, AreKept}
use Rattle.coda_net.proofs.Trimmed.{kept_trimmed}
use Rattle.coda_net.proofs.net.Net.trim.Goals as goal

pub invariant_of-self : goal.invariant_of-self
invariant_of-self c = subst (λ (ls : Letters). AreKept ls c.self.inside.posted) (sym c.trim.ensures) (kept_trimmed c.self.inside.letters.entries c.self.inside.posted c.args.number c.args.length c.self.invariant)
