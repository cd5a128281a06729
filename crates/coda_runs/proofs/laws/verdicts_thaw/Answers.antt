use Rattle.coda_runs.proofs.Thawed.{verdicts_thaw}
use Rattle.coda_runs.proofs.laws.verdicts_thaw.Goals as goal

pub returns : goal.returns
returns c = verdicts_thaw
