use Rattle.coda_runs.proofs.Running.{clients_come_back}
use Rattle.coda_runs.proofs.laws.clients_come_back.Goals as goal

pub returns : goal.returns
returns c = clients_come_back
