use Rattle.std.proofs.Common.{subst}
use Rattle.coda_script.specs.Outcome.{Gives}
use Rattle.coda_script.proofs.WholeLines.{is_found, is_only, is_silent_then, is_in_range}
use Rattle.coda_script.proofs.reading.read_line.Goals as goal

pub returns-clause-found : goal.returns-clause-found
returns-clause-found c = is_found c.args.bytes.now c.whole_line.result c.whole_line.ensures

pub returns-clause-only : goal.returns-clause-only
returns-clause-only c = λ said s. subst (λ f. Gives (λ o. o) c.whole_line.result f) (is_only c.args.bytes.now said s) c.whole_line.ensures

pub returns-clause-silent : goal.returns-clause-silent
returns-clause-silent c = is_silent_then c.args.bytes.now c.whole_line.result c.whole_line.ensures

pub returns-clause-ranges : goal.returns-clause-ranges
returns-clause-ranges c = is_in_range c.args.bytes.now c.whole_line.result (is_found c.args.bytes.now c.whole_line.result c.whole_line.ensures)
