use Rattle.coda_net.proofs.Found.{finds_least}
use Rattle.coda_net.proofs.law.finds_name_the_least_number.Goals as goal

pub returns : goal.returns
returns c = finds_least
