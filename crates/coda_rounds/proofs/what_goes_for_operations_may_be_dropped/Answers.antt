use Rattle.coda_rounds.proofs.Operating.{what_goes_for_operations as law}
use Rattle.coda_rounds.proofs.what_goes_for_operations_may_be_dropped.Goals as goal

pub returns : goal.returns
returns c = law
