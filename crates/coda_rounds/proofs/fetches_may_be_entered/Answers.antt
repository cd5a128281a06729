use Rattle.coda_rounds.proofs.Fetching.{fetches_may_be_entered as law}
use Rattle.coda_rounds.proofs.fetches_may_be_entered.Goals as goal

pub returns : goal.returns
returns c = law
