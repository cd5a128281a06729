use Rattle.coda_rounds.proofs.Ready.{rounds_may_be_entered as law}
use Rattle.coda_rounds.proofs.rounds_may_be_entered.Goals as goal

pub returns : goal.returns
returns c = law
