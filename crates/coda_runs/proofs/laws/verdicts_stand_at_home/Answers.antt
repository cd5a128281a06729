use Rattle.coda_runs.proofs.Standing.{verdicts_stand_at_home}
use Rattle.coda_runs.proofs.laws.verdicts_stand_at_home.Goals as goal

pub returns : goal.returns
returns c = verdicts_stand_at_home
