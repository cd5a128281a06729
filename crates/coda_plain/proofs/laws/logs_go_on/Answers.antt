use Rattle.coda_plain.proofs.Logging.{logs_go_on}
use Rattle.coda_plain.proofs.laws.logs_go_on.Goals as goal

pub returns : goal.returns
returns c = logs_go_on
