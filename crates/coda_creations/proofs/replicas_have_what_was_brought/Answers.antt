use Rattle.coda_creations.proofs.Brought.{replicas_have as law}
use Rattle.coda_creations.proofs.replicas_have_what_was_brought.Goals as goal

pub returns : goal.returns
returns c = law
