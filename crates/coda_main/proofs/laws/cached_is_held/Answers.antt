use Rattle.coda_main.proofs.Newly.{cached_is_held}
use Rattle.coda_main.proofs.laws.cached_is_held.Goals as goal

pub returns : goal.returns
returns c = cached_is_held
