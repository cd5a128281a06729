use Rattle.coda_versions.proofs.Stale.{stale_refused as law}
use Rattle.coda_versions.proofs.stale_operations_are_refused.Goals as goal

pub returns : goal.returns
returns c = law
