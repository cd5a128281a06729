use Rattle.coda_rounds.proofs.Needed.{needed_objects_are_missing as law}
use Rattle.coda_rounds.proofs.needed_objects_are_missing.Goals as goal

pub returns : goal.returns
returns c = law
