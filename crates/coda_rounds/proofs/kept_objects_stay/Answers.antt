use Rattle.coda_rounds.proofs.Staying.{kept_objects_stay as law}
use Rattle.coda_rounds.proofs.kept_objects_stay.Goals as goal

pub returns : goal.returns
returns c = law
