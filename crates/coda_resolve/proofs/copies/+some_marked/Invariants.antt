use Rattle.std.proofs.Common.{length}
use Rattle.coda_resolve.proofs.copies.+some_marked.Given as goal

abbrev pub decreases-some_marked : goal.decreases-some_marked
decreases-some_marked l = length l.copies.now
