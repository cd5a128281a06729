use Rattle.coda_plain.proofs.Elsewhere.{replicas_stand_elsewhere}
use Rattle.coda_plain.proofs.laws.replicas_stand_elsewhere.Goals as goal

pub returns : goal.returns
returns c = replicas_stand_elsewhere
