use Rattle.coda_cell.proofs.KeptLines.{lines_keep_cells}
use Rattle.coda_cell.proofs.runs.lines_keep_cells.Goals as goal

pub returns : goal.returns
returns c = lines_keep_cells
