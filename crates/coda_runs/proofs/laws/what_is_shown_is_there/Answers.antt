use Rattle.coda_runs.proofs.Shown.{what_is_shown_is_there}
use Rattle.coda_runs.proofs.laws.what_is_shown_is_there.Goals as goal

pub returns : goal.returns
returns c = what_is_shown_is_there
