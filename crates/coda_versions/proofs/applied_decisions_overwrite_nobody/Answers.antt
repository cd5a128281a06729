use Rattle.coda_versions.proofs.Overwriting.{decisions_overwrite_nobody as law}
use Rattle.coda_versions.proofs.applied_decisions_overwrite_nobody.Goals as goal

pub returns : goal.returns
returns c = law
