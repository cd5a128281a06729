use Rattle.std.proofs.Common.{length}
use Rattle.coda_repair.proofs.finding.+lead_alike.Given as goal

abbrev pub decreases-lead_alike : goal.decreases-lead_alike
decreases-lead_alike l = length l.names.now
