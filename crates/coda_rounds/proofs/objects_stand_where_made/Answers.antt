use Rattle.coda_rounds.proofs.Places.{objects_stand_where_made as law}
use Rattle.coda_rounds.proofs.objects_stand_where_made.Goals as goal

pub returns : goal.returns
returns c = law
