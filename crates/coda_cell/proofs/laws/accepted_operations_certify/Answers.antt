use Rattle.coda_cell.proofs.Alone.{accepted_operations_certify}
use Rattle.coda_cell.proofs.laws.accepted_operations_certify.Goals as goal

pub returns : goal.returns
returns c = accepted_operations_certify
