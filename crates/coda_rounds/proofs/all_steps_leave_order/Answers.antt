use Rattle.coda_rounds.proofs.Orders.{all_steps_leave_order as law}
use Rattle.coda_rounds.proofs.all_steps_leave_order.Goals as goal

pub returns : goal.returns
returns c = law
