use Rattle.coda_creations.proofs.InPlace.{logs_in_place as law}
use Rattle.coda_creations.proofs.logs_stay_in_place.Goals as goal

pub returns : goal.returns
returns c = law
