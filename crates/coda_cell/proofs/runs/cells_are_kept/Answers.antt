use Rattle.coda_cell.proofs.KeptCells.{cells_are_kept}
use Rattle.coda_cell.proofs.runs.cells_are_kept.Goals as goal

pub returns : goal.returns
returns c = cells_are_kept
