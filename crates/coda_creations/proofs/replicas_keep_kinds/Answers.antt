use Rattle.coda_creations.proofs.KindsOfReplicas.{replicas_keep as law}
use Rattle.coda_creations.proofs.replicas_keep_kinds.Goals as goal

pub returns : goal.returns
returns c = law
