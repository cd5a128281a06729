use Rattle.std.proofs.Common.{length}
use Rattle.coda_repair.proofs.finding.+are_ways.Given as goal

abbrev pub decreases-are_ways : goal.decreases-are_ways
decreases-are_ways l = length l.views.now
