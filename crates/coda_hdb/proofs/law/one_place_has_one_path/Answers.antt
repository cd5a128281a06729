use Rattle.coda_hdb.proofs.Orders.{one_place_has_one_path}
use Rattle.coda_hdb.proofs.law.one_place_has_one_path.Goals as goal

pub returns : goal.returns
returns c = one_place_has_one_path
