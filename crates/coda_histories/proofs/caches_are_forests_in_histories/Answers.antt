use Rattle.coda_histories.proofs.Entries.{followed as law}
use Rattle.coda_histories.proofs.caches_are_forests_in_histories.Goals as goal

pub returns : goal.returns
returns c = law
