use Rattle.coda_overlay.proofs.Logs.{unmentioned_stay as law}
use Rattle.coda_overlay.proofs.unmentioned_copies_stay.Goals as goal

pub returns : goal.returns
returns c = law
