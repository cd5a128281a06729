use Rattle.coda_repair.proofs.Laws.{repaired_are_equal}
use Rattle.coda_repair.proofs.law.repaired_are_equal.Goals as goal

pub returns : goal.returns
returns c = repaired_are_equal
