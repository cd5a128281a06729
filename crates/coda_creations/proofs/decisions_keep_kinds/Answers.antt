use Rattle.coda_creations.proofs.KindsKept.{decisions_keep as law}
use Rattle.coda_creations.proofs.decisions_keep_kinds.Goals as goal

pub returns : goal.returns
returns c = law
