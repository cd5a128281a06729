use Rattle.coda_runs.proofs.Owned.{recoveries_find_their_own}
use Rattle.coda_runs.proofs.laws.recoveries_find_their_own.Goals as goal

pub returns : goal.returns
returns c = recoveries_find_their_own
