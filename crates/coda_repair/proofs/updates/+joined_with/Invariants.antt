use Rattle.std.proofs.Common.{length}
use Rattle.coda_repair.proofs.updates.+joined_with.Given as goal

abbrev pub decreases-joined_with : goal.decreases-joined_with
decreases-joined_with l = length l.views.now
