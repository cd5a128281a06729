use Rattle.coda_repair.proofs.Laws.{source_keeps_the_rest}
use Rattle.coda_repair.proofs.law.source_keeps_the_rest.Goals as goal

pub returns : goal.returns
returns c = source_keeps_the_rest
