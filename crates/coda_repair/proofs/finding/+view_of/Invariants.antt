use Rattle.std.proofs.Common.{length}
use Rattle.coda_repair.proofs.finding.+view_of.Given as goal

abbrev pub decreases-view_of : goal.decreases-view_of
decreases-view_of l = length l.views.now
