use Rattle.coda_matching.proofs.Replicas.{journals_leave_replicas}
use Rattle.coda_matching.proofs.journals_leave_replicas.Goals as goal

pub returns : goal.returns
returns c = journals_leave_replicas
