use Rattle.coda_hdb.proofs.Orders.{databases_keep_their_order}
use Rattle.coda_hdb.proofs.law.databases_keep_their_order.Goals as goal

pub returns : goal.returns
returns c = databases_keep_their_order
