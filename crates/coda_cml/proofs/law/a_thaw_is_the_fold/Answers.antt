use Rattle.coda_cml.proofs.runs.ThawedFold.{thaw}
use Rattle.coda_cml.proofs.law.a_thaw_is_the_fold.Goals as goal

pub returns : goal.returns
returns c = thaw
