use Rattle.coda_histories.proofs.Entries.{entered as law}
use Rattle.coda_histories.proofs.entries_keep_forests.Goals as goal

pub returns : goal.returns
returns c = law
