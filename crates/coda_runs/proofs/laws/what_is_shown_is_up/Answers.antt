use Rattle.coda_runs.proofs.ShownUp.{shows_what_is_up}
use Rattle.coda_runs.proofs.laws.what_is_shown_is_up.Goals as goal

pub returns : goal.returns
returns c = shows_what_is_up
