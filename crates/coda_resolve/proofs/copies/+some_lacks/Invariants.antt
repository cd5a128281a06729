use Rattle.std.proofs.Common.{length}
use Rattle.coda_resolve.proofs.copies.+some_lacks.Given as goal

abbrev pub decreases-some_lacks : goal.decreases-some_lacks
decreases-some_lacks l = length l.copies.now
