use Rattle.coda_versions.proofs.Left.{versions_left as law}
use Rattle.coda_versions.proofs.operations_leave_versions.Goals as goal

pub returns : goal.returns
returns c = law
