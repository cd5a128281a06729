use Rattle.coda_creations.proofs.OneKind.{lines_keep as law}
use Rattle.coda_creations.proofs.lines_keep_kinds.Goals as goal

pub returns : goal.returns
returns c = law
