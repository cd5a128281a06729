use Rattle.coda_creations.proofs.Placed.{accepted_in_place as law}
use Rattle.coda_creations.proofs.accepted_removals_are_in_place.Goals as goal

pub returns : goal.returns
returns c = law
