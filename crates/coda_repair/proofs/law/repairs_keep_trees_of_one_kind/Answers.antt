use Rattle.coda_repair.proofs.Laws.{repairs_keep_trees_of_one_kind}
use Rattle.coda_repair.proofs.law.repairs_keep_trees_of_one_kind.Goals as goal

pub returns : goal.returns
returns c = repairs_keep_trees_of_one_kind
