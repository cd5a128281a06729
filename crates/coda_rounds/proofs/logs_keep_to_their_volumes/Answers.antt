use Rattle.coda_rounds.proofs.Volumes.{logs_keep_to_their_volumes as law}
use Rattle.coda_rounds.proofs.logs_keep_to_their_volumes.Goals as goal

pub returns : goal.returns
returns c = law
