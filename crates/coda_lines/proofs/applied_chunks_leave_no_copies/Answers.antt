use Rattle.coda_lines.proofs.Staling.{applied_chunks_leave_no_copies as law}
use Rattle.coda_lines.proofs.applied_chunks_leave_no_copies.Goals as goal

pub returns : goal.returns
returns c = law
