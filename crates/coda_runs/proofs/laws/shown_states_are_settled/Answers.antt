use Rattle.coda_runs.proofs.States.{shown_states_are_settled}
use Rattle.coda_runs.proofs.laws.shown_states_are_settled.Goals as goal

pub returns : goal.returns
returns c = shown_states_are_settled
