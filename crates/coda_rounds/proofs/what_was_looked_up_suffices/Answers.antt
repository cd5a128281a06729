use Rattle.coda_rounds.proofs.Whole.{what_was_looked_up as law}
use Rattle.coda_rounds.proofs.what_was_looked_up_suffices.Goals as goal

pub returns : goal.returns
returns c = law
