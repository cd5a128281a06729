use Rattle.coda_runs.proofs.Running.{what_ran_is_kept}
use Rattle.coda_runs.proofs.laws.what_ran_is_kept.Goals as goal

pub returns : goal.returns
returns c = what_ran_is_kept
