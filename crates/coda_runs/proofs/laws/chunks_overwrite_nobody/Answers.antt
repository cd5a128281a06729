use Rattle.coda_runs.proofs.Overwriting.{chunks_overwrite_nobody}
use Rattle.coda_runs.proofs.laws.chunks_overwrite_nobody.Goals as goal

pub returns : goal.returns
returns c = chunks_overwrite_nobody
