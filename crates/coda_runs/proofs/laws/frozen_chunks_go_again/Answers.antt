use Rattle.coda_runs.proofs.Going.{frozen_chunks_go_again}
use Rattle.coda_runs.proofs.laws.frozen_chunks_go_again.Goals as goal

pub returns : goal.returns
returns c = frozen_chunks_go_again
