use Rattle.coda_runs.proofs.Asked.{operations_are_performed}
use Rattle.coda_runs.proofs.laws.operations_are_performed.Goals as goal

pub returns : goal.returns
returns c = operations_are_performed
