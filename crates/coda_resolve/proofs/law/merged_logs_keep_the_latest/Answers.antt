use Rattle.coda_resolve.proofs.Kept.{merged_logs_keep_the_latest}
use Rattle.coda_resolve.proofs.law.merged_logs_keep_the_latest.Goals as goal

pub returns : goal.returns
returns c = merged_logs_keep_the_latest
