use Rattle.coda_overlay.proofs.Logs.{fronts_go as law}
use Rattle.coda_overlay.proofs.unrelated_fronts_go.Goals as goal

pub returns : goal.returns
returns c = law
