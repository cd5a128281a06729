use Rattle.coda_overlay.proofs.Logs.{clean_as_given as law}
use Rattle.coda_overlay.proofs.unmentioned_copies_are_as_given.Goals as goal

pub returns : goal.returns
returns c = law
