use Rattle.coda_resolve.proofs.Told.{marks_are_told}
use Rattle.coda_resolve.proofs.law.marks_are_told.Goals as goal

pub returns : goal.returns
returns c = marks_are_told
