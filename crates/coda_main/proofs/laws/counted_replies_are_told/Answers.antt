use Rattle.coda_main.proofs.Counted.{counted_replies_are_told}
use Rattle.coda_main.proofs.laws.counted_replies_are_told.Goals as goal

pub returns : goal.returns
returns c = counted_replies_are_told
