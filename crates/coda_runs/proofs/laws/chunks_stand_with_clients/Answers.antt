use Rattle.coda_runs.proofs.Standing.{chunks_stand_with_clients}
use Rattle.coda_runs.proofs.laws.chunks_stand_with_clients.Goals as goal

pub returns : goal.returns
returns c = chunks_stand_with_clients
