use Rattle.coda_vv.proofs.Order.{inclusion_is_an_order}
use Rattle.coda_vv.proofs.law.inclusion_is_an_order.Goals as goal

pub returns : goal.returns
returns c = inclusion_is_an_order
