use Rattle.coda_runs.proofs.Caches.{caches_are_forests}
use Rattle.coda_runs.proofs.laws.caches_are_forests.Goals as goal

pub returns : goal.returns
returns c = caches_are_forests
