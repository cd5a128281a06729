use Rattle.coda_engine.proofs.OneStatus.{one_status}
use Rattle.coda_engine.proofs.laws.one_status.Goals as goal

pub returns : goal.returns
returns g c = λ alike tells start. one_status tells start start (tells.itself start) (tells.itself start)
