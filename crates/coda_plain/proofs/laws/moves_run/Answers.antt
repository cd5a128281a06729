use Rattle.coda_plain.proofs.Running.{moves_run}
use Rattle.coda_plain.proofs.laws.moves_run.Goals as goal

pub returns : goal.returns
returns c = moves_run
