use Rattle.coda_runs.proofs.Running.{conflicts_name_a_sent_record}
use Rattle.coda_runs.proofs.laws.conflicts_name_a_sent_record.Goals as goal

pub returns : goal.returns
returns c = conflicts_name_a_sent_record
