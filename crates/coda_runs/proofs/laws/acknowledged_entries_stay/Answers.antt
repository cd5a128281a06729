use Rattle.coda_runs.proofs.Running.{acknowledged_entries_stay}
use Rattle.coda_runs.proofs.laws.acknowledged_entries_stay.Goals as goal

pub returns : goal.returns
returns c = acknowledged_entries_stay
