use Rattle.coda_lines.proofs.Outcomes.{tasks_have_outcomes as law}
use Rattle.coda_lines.proofs.tasks_have_outcomes.Goals as goal

pub returns : goal.returns
returns c = law
