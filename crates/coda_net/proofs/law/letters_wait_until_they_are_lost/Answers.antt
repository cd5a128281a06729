use Rattle.coda_net.proofs.Waiting.{letters_wait}
use Rattle.coda_net.proofs.law.letters_wait_until_they_are_lost.Goals as goal

pub returns : goal.returns
returns c = letters_wait
