use Rattle.coda_rounds.proofs.Orders.{steps_leave_order as law}
use Rattle.coda_rounds.proofs.steps_leave_order.Goals as goal

pub returns : goal.returns
returns c = law
