use Rattle.std.proofs.Common.{take, option_copied}
use Rattle.coda_resolve.specs.Lent.{lent}
use Rattle.coda_resolve.specs.Claims.{AreLacking}
use Rattle.coda_resolve.proofs.claims.lacking.Given as goal

abbrev pub invariant-loop-update : goal.invariant-loop-update
invariant-loop-update l = AreLacking (lent (take l.update-index l.updates)) (option_copied l.copy) l.names
