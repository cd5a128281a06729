use Rattle.std.proofs.Common.{length}
use Rattle.coda_resolve.proofs.copies.+lowest.Given as goal

abbrev pub decreases-lowest : goal.decreases-lowest
decreases-lowest l = length l.copies.now
