use Rattle.coda_cml.proofs.runs.SteadyRest.{suffix}
use Rattle.coda_cml.proofs.law.the_rest_is_steady.Goals as goal

pub returns : goal.returns
returns c = suffix
