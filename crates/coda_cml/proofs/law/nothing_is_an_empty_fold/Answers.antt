use Rattle.coda_cml.proofs.segments.Fronts.{nothing_empty}
use Rattle.coda_cml.proofs.law.nothing_is_an_empty_fold.Goals as goal

pub returns : goal.returns
returns c = nothing_empty
