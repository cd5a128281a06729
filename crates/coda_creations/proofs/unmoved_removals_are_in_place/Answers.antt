use Rattle.coda_creations.proofs.Placed.{homes_are as law}
use Rattle.coda_creations.proofs.unmoved_removals_are_in_place.Goals as goal

pub returns : goal.returns
returns c = law
