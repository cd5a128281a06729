use Rattle.coda_matching.proofs.Histories.{journals_leave_clients}
use Rattle.coda_matching.proofs.journals_leave_clients.Goals as goal

pub returns : goal.returns
returns c = journals_leave_clients
