use Rattle.coda_cell.proofs.Decided.{drains_are_decided}
use Rattle.coda_cell.proofs.runs.drains_are_decided.Goals as goal

pub returns : goal.returns
returns c = drains_are_decided
