use Rattle.coda_rounds.proofs.Whole.{parts_accept as law}
use Rattle.coda_rounds.proofs.parts_accept_as_the_whole.Goals as goal

pub returns : goal.returns
returns c = law
