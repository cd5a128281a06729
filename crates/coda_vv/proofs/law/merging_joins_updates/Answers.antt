use Rattle.coda_vv.proofs.Sets.{joins_updates}
use Rattle.coda_vv.proofs.law.merging_joins_updates.Goals as goal

pub returns : goal.returns
returns c = joins_updates
