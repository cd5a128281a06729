use Rattle.coda_creations.proofs.KindsHeld.{clients_keep as law}
use Rattle.coda_creations.proofs.clients_keep_kinds.Goals as goal

pub returns : goal.returns
returns c = law
