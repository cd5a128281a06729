use Rattle.std.proofs.Common.{length}
use Rattle.coda_resolve.proofs.leaves.+share_node.Given as goal

abbrev pub decreases-share_node : goal.decreases-share_node
decreases-share_node l = length l.copies.now
