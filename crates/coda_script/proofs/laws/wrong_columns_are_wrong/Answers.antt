use Rattle.coda_script.proofs.WrongColumns.{wrong}
use Rattle.coda_script.proofs.laws.wrong_columns_are_wrong.Goals as goal

pub returns : goal.returns
returns c = λ f split column kind e. wrong f split.words split.end split.breaks column kind e
