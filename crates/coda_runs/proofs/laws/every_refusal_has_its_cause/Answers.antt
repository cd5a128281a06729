use Rattle.coda_runs.proofs.Because.{every_refusal_has_its_cause}
use Rattle.coda_runs.proofs.laws.every_refusal_has_its_cause.Goals as goal

pub returns : goal.returns
returns c = every_refusal_has_its_cause
