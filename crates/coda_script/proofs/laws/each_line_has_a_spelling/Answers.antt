use Rattle.coda_script.proofs.EveryLine.{every_line}
use Rattle.coda_script.proofs.WholeLines.{is_only}
use Rattle.coda_script.proofs.laws.each_line_has_a_spelling.Goals as goal

pub returns : goal.returns
returns c = λ said h b. let s = every_line said h b in (s.0, s.1, is_only s.0 said s.1)
