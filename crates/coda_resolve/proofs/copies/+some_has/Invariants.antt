use Rattle.std.proofs.Common.{length}
use Rattle.coda_resolve.proofs.copies.+some_has.Given as goal

abbrev pub decreases-some_has : goal.decreases-some_has
decreases-some_has l = length l.copies.now
