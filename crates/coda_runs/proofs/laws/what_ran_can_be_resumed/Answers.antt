use Rattle.coda_runs.proofs.Resumed.{what_ran_can_be_resumed}
use Rattle.coda_runs.proofs.laws.what_ran_can_be_resumed.Goals as goal

pub returns : goal.returns
returns c = what_ran_can_be_resumed
