use Rattle.coda_overlay.proofs.Endings.{ends_stay as law}
use Rattle.coda_overlay.proofs.ends_stay_taken_out.Goals as goal

pub returns : goal.returns
returns c = law
