use Rattle.coda_lines.proofs.Lines.{lines_keep_cells_working as law}
use Rattle.coda_lines.proofs.lines_keep_cells_working.Goals as goal

pub returns : goal.returns
returns c = law
