use Rattle.coda_lineage.proofs.Reaching.{stay_trees_of_one_kind}
use Rattle.coda_lineage.proofs.law.replicas_stay_trees_of_one_kind.Goals as goal

pub returns : goal.returns
returns c = stay_trees_of_one_kind
