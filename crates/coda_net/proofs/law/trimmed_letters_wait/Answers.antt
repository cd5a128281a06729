use Rattle.coda_net.proofs.Trimmed.{trimmed_wait}
use Rattle.coda_net.proofs.law.trimmed_letters_wait.Goals as goal

pub returns : goal.returns
returns c = trimmed_wait
