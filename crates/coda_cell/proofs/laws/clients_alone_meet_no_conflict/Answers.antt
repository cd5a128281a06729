use Rattle.coda_cell.proofs.Alone.{clients_alone_meet_no_conflict}
use Rattle.coda_cell.proofs.laws.clients_alone_meet_no_conflict.Goals as goal

pub returns : goal.returns
returns c = clients_alone_meet_no_conflict
