use Rattle.coda_resolve.proofs.After.{trees_of_one_kind_after}
use Rattle.coda_resolve.proofs.law.changes_keep_trees_of_one_kind.Goals as goal

pub returns : goal.returns
returns c = trees_of_one_kind_after
