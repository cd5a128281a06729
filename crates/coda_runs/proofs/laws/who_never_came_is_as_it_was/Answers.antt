use Rattle.coda_runs.proofs.NeverCame.{who_never_came_is_as_it_was}
use Rattle.coda_runs.proofs.laws.who_never_came_is_as_it_was.Goals as goal

pub returns : goal.returns
returns c = who_never_came_is_as_it_was
