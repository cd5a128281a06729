use Rattle.coda_overlay.proofs.Remaining.{taken_out_stays as law}
use Rattle.coda_overlay.proofs.taken_out_stays.Goals as goal

pub returns : goal.returns
returns c = law
