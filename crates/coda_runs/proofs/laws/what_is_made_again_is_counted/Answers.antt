use Rattle.coda_runs.proofs.Mounted.{what_is_made_again_is_counted}
use Rattle.coda_runs.proofs.laws.what_is_made_again_is_counted.Goals as goal

pub returns : goal.returns
returns c = what_is_made_again_is_counted
