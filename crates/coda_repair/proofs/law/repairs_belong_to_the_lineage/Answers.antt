use Rattle.coda_repair.proofs.Laws.{repairs_belong_to_the_lineage}
use Rattle.coda_repair.proofs.law.repairs_belong_to_the_lineage.Goals as goal

pub returns : goal.returns
returns c = repairs_belong_to_the_lineage
