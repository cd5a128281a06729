use Rattle.coda_engine.proofs.OneRun.{clean_scripts_run}
use Rattle.coda_runs.proofs.Made.{cells_tell}
use Rattle.coda_runs.proofs.laws.clean_scripts_run.Goals as goal

pub returns : goal.returns
returns c cell other = clean_scripts_run cells_tell cell other tt
