use Rattle.coda_runs.proofs.Running.{replicas_come_back}
use Rattle.coda_runs.proofs.laws.replicas_come_back.Goals as goal

pub returns : goal.returns
returns c = replicas_come_back
