use Rattle.coda_runs.proofs.Shelved.{runs_go_on}
use Rattle.coda_runs.proofs.laws.runs_go_on.Goals as goal

pub returns : goal.returns
returns c = runs_go_on
