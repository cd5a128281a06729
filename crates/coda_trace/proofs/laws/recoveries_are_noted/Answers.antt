use Rattle.coda_trace.proofs.Telling.{recoveries_are_noted}
use Rattle.coda_trace.proofs.laws.recoveries_are_noted.Goals as goal

pub returns : goal.returns
returns c = recoveries_are_noted
