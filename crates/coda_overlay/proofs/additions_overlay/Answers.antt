use Rattle.coda_overlay.proofs.Logs.{additions_overlay as law}
use Rattle.coda_overlay.proofs.additions_overlay.Goals as goal

pub returns : goal.returns
returns c = law
