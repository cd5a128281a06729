use Rattle.coda_overlay.proofs.Logs.{additions_behind as law}
use Rattle.coda_overlay.proofs.additions_behind_chunks_overlay.Goals as goal

pub returns : goal.returns
returns c = law
