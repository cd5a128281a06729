use Rattle.coda_cml.proofs.runs.StillThere.{nothing_needless}
use Rattle.coda_cml.proofs.law.nothing_needless_stays.Goals as goal

pub returns : goal.returns
returns c = nothing_needless
