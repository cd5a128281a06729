use Rattle.std.proofs.Common.{length}
use Rattle.coda_resolve.proofs.marks.+some_unmarked.Given as goal

abbrev pub decreases-some_unmarked : goal.decreases-some_unmarked
decreases-some_unmarked l = length l.copies.now
