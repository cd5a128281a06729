use Rattle.coda_runs.proofs.Running.{settlements_are_decided}
use Rattle.coda_runs.proofs.laws.settlements_are_decided.Goals as goal

pub returns : goal.returns
returns c = settlements_are_decided
