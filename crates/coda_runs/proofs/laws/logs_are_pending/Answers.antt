use Rattle.coda_runs.proofs.Running.{logs_are_pending}
use Rattle.coda_runs.proofs.laws.logs_are_pending.Goals as goal

pub returns : goal.returns
returns c = logs_are_pending
