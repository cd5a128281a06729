use Rattle.coda_runs.proofs.Running.{chunks_are_decided_once}
use Rattle.coda_runs.proofs.laws.chunks_are_decided_once.Goals as goal

pub returns : goal.returns
returns c = chunks_are_decided_once
