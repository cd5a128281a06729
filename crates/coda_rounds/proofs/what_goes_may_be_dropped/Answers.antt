use Rattle.coda_rounds.proofs.Entering.{what_goes_may_be_dropped as law}
use Rattle.coda_rounds.proofs.what_goes_may_be_dropped.Goals as goal

pub returns : goal.returns
returns c = law
