use Rattle.coda_creations.proofs.Placed.{places_kept as law}
use Rattle.coda_creations.proofs.objects_stay_where_created.Goals as goal

pub returns : goal.returns
returns c = law
