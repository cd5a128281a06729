use Rattle.coda_runs.proofs.OnMade.{lines_act_on_made_volumes}
use Rattle.coda_runs.proofs.laws.lines_act_on_made_volumes.Goals as goal

pub returns : goal.returns
returns c = lines_act_on_made_volumes
