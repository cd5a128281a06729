use Rattle.coda_resolve.proofs.FirstCause.{marks_name_the_first_cause}
use Rattle.coda_resolve.proofs.law.marks_name_the_first_cause.Goals as goal

pub returns : goal.returns
returns c = marks_name_the_first_cause
