use Rattle.coda_script.proofs.FirstOfLines.{first_of_line}
use Rattle.coda_script.proofs.laws.wrong_columns_are_first.Goals as goal

pub returns : goal.returns
returns c = λ line column kind e. first_of_line line column kind e
