use Rattle.coda_vv.proofs.Sets.{includes_updates}
use Rattle.coda_vv.proofs.law.vectors_include_updates.Goals as goal

pub returns : goal.returns
returns c = includes_updates
