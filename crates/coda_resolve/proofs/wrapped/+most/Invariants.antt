use Rattle.std.proofs.Common.{length}
use Rattle.coda_resolve.proofs.wrapped.+most.Given as goal

abbrev pub decreases-most : goal.decreases-most
decreases-most l = length l.copies.now
