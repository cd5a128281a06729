use Rattle.coda_trace.proofs.Telling.{traces_are_runs}
use Rattle.coda_trace.proofs.laws.traces_are_runs.Goals as goal

pub returns : goal.returns
returns c = traces_are_runs
