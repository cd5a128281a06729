use Rattle.coda_cml.proofs.runs.TemporaryObjects.{temporary}
use Rattle.coda_cml.proofs.law.temporary_objects_leave_nothing.Goals as goal

pub returns : goal.returns
returns c = temporary
