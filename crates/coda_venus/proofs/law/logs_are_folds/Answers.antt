use Rattle.coda_venus.proofs.Folds.{folds}
use Rattle.coda_venus.proofs.law.logs_are_folds.Goals as goal

pub returns : goal.returns
returns c = folds
