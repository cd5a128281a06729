use Rattle.coda_rounds.proofs.Later.{later_objects_stay_free as law}
use Rattle.coda_rounds.proofs.later_objects_stay_free.Goals as goal

pub returns : goal.returns
returns c = law
