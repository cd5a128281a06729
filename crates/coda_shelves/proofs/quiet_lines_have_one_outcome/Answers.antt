use Rattle.coda_shelves.proofs.Quiet.{quiet_lines_have_one_outcome}
use Rattle.coda_shelves.proofs.quiet_lines_have_one_outcome.Goals as goal

pub returns : goal.returns
returns c = quiet_lines_have_one_outcome
