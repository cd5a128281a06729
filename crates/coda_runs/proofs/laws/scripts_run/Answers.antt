use Rattle.coda_runs.proofs.Running.{scripts_run}
use Rattle.coda_runs.proofs.laws.scripts_run.Goals as goal

pub returns : goal.returns
returns c = scripts_run
