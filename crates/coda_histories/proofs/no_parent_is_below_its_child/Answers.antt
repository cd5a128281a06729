use Rattle.coda_histories.proofs.Ways.{no_cycle}
use Rattle.coda_histories.proofs.no_parent_is_below_its_child.Goals as goal

pub returns : goal.returns
returns c = λ held forest. no_cycle held.parents forest.depth forest.deeper
