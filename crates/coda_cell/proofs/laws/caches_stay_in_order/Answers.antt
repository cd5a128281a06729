use Rattle.coda_cell.proofs.Again.{caches_stay_in_order}
use Rattle.coda_cell.proofs.laws.caches_stay_in_order.Goals as goal

pub returns : goal.returns
returns c = caches_stay_in_order
