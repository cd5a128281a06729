use Rattle.coda_cell.proofs.Ordered.{refusals_come_in_order}
use Rattle.coda_cell.proofs.laws.refusals_come_in_order.Goals as goal

pub returns : goal.returns
returns c = refusals_come_in_order
