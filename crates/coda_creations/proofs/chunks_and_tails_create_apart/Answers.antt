use Rattle.coda_creations.proofs.Tails.{tails_apart as law}
use Rattle.coda_creations.proofs.chunks_and_tails_create_apart.Goals as goal

pub returns : goal.returns
returns c = law
