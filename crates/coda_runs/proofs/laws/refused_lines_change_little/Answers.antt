use Rattle.coda_runs.proofs.Untouched.{refused_lines_change_little}
use Rattle.coda_runs.proofs.laws.refused_lines_change_little.Goals as goal

pub returns : goal.returns
returns c = refused_lines_change_little
