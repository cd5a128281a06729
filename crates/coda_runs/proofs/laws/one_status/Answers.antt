use Rattle.coda_engine.proofs.OneStatus.{one_status}
use Rattle.coda_runs.proofs.Made.{cells_tell}
use Rattle.coda_runs.proofs.laws.one_status.Goals as goal

pub returns : goal.returns
returns c cell other = one_status cells_tell cell other tt tt
