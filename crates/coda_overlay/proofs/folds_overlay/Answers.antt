use Rattle.coda_overlay.proofs.Logs.{folds_overlay as law}
use Rattle.coda_overlay.proofs.folds_overlay.Goals as goal

pub returns : goal.returns
returns c = law
