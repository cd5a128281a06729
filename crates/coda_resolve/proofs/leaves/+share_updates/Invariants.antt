use Rattle.std.proofs.Common.{length}
use Rattle.coda_resolve.proofs.leaves.+share_updates.Given as goal

abbrev pub decreases-share_updates : goal.decreases-share_updates
decreases-share_updates l = length l.copies.now
