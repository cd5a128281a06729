use Rattle.std.proofs.Common.{length}
use Rattle.coda_resolve.proofs.fate.+newest.Given as goal

abbrev pub decreases-newest : goal.decreases-newest
decreases-newest l = length l.copies.now
