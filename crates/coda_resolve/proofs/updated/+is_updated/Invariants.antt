use Rattle.std.proofs.Common.{length}
use Rattle.coda_resolve.proofs.updated.+is_updated.Given as goal

abbrev pub decreases-is_updated : goal.decreases-is_updated
decreases-is_updated l = length l.copies.now
