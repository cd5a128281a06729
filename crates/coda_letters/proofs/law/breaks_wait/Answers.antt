use Rattle.coda_letters.proofs.Waiting.{breaks_wait}
use Rattle.coda_letters.proofs.law.breaks_wait.Goals as goal

pub returns : goal.returns
returns c = breaks_wait
