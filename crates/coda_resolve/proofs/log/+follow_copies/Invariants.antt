use Rattle.std.proofs.Common.{length}
use Rattle.coda_resolve.proofs.log.+follow_copies.Given as goal

abbrev pub decreases-follow_copies : goal.decreases-follow_copies
decreases-follow_copies l = length l.copies.now
