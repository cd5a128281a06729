use Rattle.std.proofs.Common.{length}
use Rattle.coda_resolve.proofs.wrapped.+fewest.Given as goal

abbrev pub decreases-fewest : goal.decreases-fewest
decreases-fewest l = length l.copies.now
