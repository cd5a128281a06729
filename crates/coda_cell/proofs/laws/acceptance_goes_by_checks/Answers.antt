use Rattle.coda_cell.proofs.Checked.{acceptance_goes_by_checks}
use Rattle.coda_cell.proofs.laws.acceptance_goes_by_checks.Goals as goal

pub returns : goal.returns
returns c = acceptance_goes_by_checks
