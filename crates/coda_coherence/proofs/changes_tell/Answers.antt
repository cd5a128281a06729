use Rattle.coda_coherence.proofs.Telling.{changes_tell as law}
use Rattle.coda_coherence.proofs.changes_tell.Goals as goal

pub returns : goal.returns
returns c = law
