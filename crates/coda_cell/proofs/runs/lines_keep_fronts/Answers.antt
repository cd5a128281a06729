use Rattle.coda_cell.proofs.KeptLines.{lines_keep_fronts}
use Rattle.coda_cell.proofs.runs.lines_keep_fronts.Goals as goal

pub returns : goal.returns
returns c = lines_keep_fronts
