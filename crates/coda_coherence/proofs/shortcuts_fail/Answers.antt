use Rattle.coda_coherence.proofs.Failing.{shortcuts_fail as law}
use Rattle.coda_coherence.proofs.shortcuts_fail.Goals as goal

pub returns : goal.returns
returns c = law
