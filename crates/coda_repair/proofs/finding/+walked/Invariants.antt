use Rattle.std.proofs.Common.{length}
use Rattle.coda_repair.proofs.finding.+walked.Given as goal

abbrev pub decreases-walked : goal.decreases-walked
decreases-walked l = length l.names.now
