use Rattle.coda_runs.proofs.Lettered.{letters_say_what_is_so}
use Rattle.coda_runs.proofs.laws.letters_say_what_is_so.Goals as goal

pub returns : goal.returns
returns c = letters_say_what_is_so
