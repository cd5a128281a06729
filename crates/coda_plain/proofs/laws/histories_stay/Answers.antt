use Rattle.coda_plain.proofs.Staying.{histories_stay}
use Rattle.coda_plain.proofs.laws.histories_stay.Goals as goal

pub returns : goal.returns
returns c = histories_stay
