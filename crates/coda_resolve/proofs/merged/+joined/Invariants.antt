use Rattle.std.proofs.Common.{length}
use Rattle.coda_resolve.proofs.merged.+joined.Given as goal

abbrev pub decreases-joined : goal.decreases-joined
decreases-joined l = length l.copies.now
