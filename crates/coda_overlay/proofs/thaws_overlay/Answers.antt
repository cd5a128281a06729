use Rattle.coda_overlay.proofs.Logs.{thaws_overlay as law}
use Rattle.coda_overlay.proofs.thaws_overlay.Goals as goal

pub returns : goal.returns
returns c = law
