use Rattle.coda_main.proofs.Asking.{what_asks_the_bay_is_of_it}
use Rattle.coda_main.proofs.laws.what_asks_the_bay_is_of_it.Goals as goal

pub returns : goal.returns
returns c = what_asks_the_bay_is_of_it
