use Rattle.coda_vv.proofs.Order.{comparisons_tell_inclusion}
use Rattle.coda_vv.proofs.law.comparisons_tell_inclusion.Goals as goal

pub returns : goal.returns
returns c = comparisons_tell_inclusion
