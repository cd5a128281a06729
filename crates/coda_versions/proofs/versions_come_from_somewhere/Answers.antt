use Rattle.coda_versions.proofs.Overwriting.{versions_come as law}
use Rattle.coda_versions.proofs.versions_come_from_somewhere.Goals as goal

pub returns : goal.returns
returns c = law
