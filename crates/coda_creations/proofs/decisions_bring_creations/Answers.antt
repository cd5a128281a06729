use Rattle.coda_creations.proofs.Brought.{decisions_bring as law}
use Rattle.coda_creations.proofs.decisions_bring_creations.Goals as goal

pub returns : goal.returns
returns c = law
