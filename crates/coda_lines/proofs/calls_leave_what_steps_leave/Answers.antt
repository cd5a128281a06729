use Rattle.coda_lines.proofs.Lines.{calls_leave_what_steps_leave as law}
use Rattle.coda_lines.proofs.calls_leave_what_steps_leave.Goals as goal

pub returns : goal.returns
returns c = law
