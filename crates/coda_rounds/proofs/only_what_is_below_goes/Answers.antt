use Rattle.coda_rounds.proofs.Leaving.{only_what_is_below_goes as law}
use Rattle.coda_rounds.proofs.only_what_is_below_goes.Goals as goal

pub returns : goal.returns
returns c = law
