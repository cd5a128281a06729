use Rattle.coda_cml.proofs.runs.SteadySteps.{kept_steady}
use Rattle.coda_cml.proofs.law.operations_keep_steady.Goals as goal

pub returns : goal.returns
returns c = kept_steady
