use Rattle.coda_runs.proofs.Mounted.{what_others_hold_is_kept}
use Rattle.coda_runs.proofs.laws.what_others_hold_is_kept.Goals as goal

pub returns : goal.returns
returns c = what_others_hold_is_kept
