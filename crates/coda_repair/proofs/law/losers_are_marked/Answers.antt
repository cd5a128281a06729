use Rattle.coda_repair.proofs.Laws.{losers_are_marked}
use Rattle.coda_repair.proofs.law.losers_are_marked.Goals as goal

pub returns : goal.returns
returns c = losers_are_marked
