use Rattle.coda_cml.proofs.volumes.Cancelling.{conflict_real}
use Rattle.coda_cml.proofs.law.conflicts_of_folds_are_real.Goals as goal

pub returns : goal.returns
returns c = conflict_real
