use Rattle.coda_overlay.proofs.Example.{places_matter as law}
use Rattle.coda_overlay.proofs.places_matter.Goals as goal

pub returns : goal.returns
returns c = law
