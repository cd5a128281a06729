use Rattle.std.proofs.Common.{rules}
use Rattle.coda_main.proofs.top.run_script.Goals as goal

pub returns-clause-report : goal.returns-clause-report
returns-clause-report g c = λ shelves kept on. search rules
