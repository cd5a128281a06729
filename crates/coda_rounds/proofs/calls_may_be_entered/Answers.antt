use Rattle.coda_rounds.proofs.Calls.{calls_may_be_entered as law}
use Rattle.coda_rounds.proofs.calls_may_be_entered.Goals as goal

pub returns : goal.returns
returns c = law
