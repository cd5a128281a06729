use Rattle.coda_runs.proofs.Lettered.{replies_name_letters}
use Rattle.coda_runs.proofs.laws.replies_name_letters.Goals as goal

pub returns : goal.returns
returns c = replies_name_letters
