use Rattle.coda_runs.proofs.Running.{certified_chunks_are_applied}
use Rattle.coda_runs.proofs.laws.certified_chunks_are_applied.Goals as goal

pub returns : goal.returns
returns c = certified_chunks_are_applied
