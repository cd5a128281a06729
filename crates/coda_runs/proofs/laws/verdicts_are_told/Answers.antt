use Rattle.coda_runs.proofs.Going.{verdicts_are_told}
use Rattle.coda_runs.proofs.laws.verdicts_are_told.Goals as goal

pub returns : goal.returns
returns c = verdicts_are_told
