use Rattle.std.proofs.Common.{length}
use Rattle.coda_resolve.proofs.missing.+with_copies.Given as goal

abbrev pub decreases-with_copies : goal.decreases-with_copies
decreases-with_copies l = length l.rest.now
