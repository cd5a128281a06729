use Rattle.coda_runs.proofs.Running.{operations_are_kept}
use Rattle.coda_runs.proofs.laws.operations_are_kept.Goals as goal

pub returns : goal.returns
returns c = operations_are_kept
