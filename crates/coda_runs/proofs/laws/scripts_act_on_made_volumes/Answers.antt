use Rattle.coda_runs.proofs.OnMade.{scripts_act_on_made_volumes}
use Rattle.coda_runs.proofs.laws.scripts_act_on_made_volumes.Goals as goal

pub returns : goal.returns
returns c = scripts_act_on_made_volumes
