use Rattle.coda_runs.proofs.Ended.{letters_have_ends}
use Rattle.coda_runs.proofs.laws.letters_have_ends.Goals as goal

pub returns : goal.returns
returns c = letters_have_ends
