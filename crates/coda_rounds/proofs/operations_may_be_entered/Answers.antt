use Rattle.coda_rounds.proofs.Performing.{operations_may_be_entered as law}
use Rattle.coda_rounds.proofs.operations_may_be_entered.Goals as goal

pub returns : goal.returns
returns c = law
