use Rattle.coda_runs.proofs.Stopped.{refusals_have_causes}
use Rattle.coda_runs.proofs.laws.refusals_have_causes.Goals as goal

pub returns : goal.returns
returns c = refusals_have_causes
