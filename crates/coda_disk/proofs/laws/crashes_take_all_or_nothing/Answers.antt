use Rattle.coda_disk.proofs.Puts.{crashes_take_all_or_nothing}
use Rattle.coda_disk.proofs.laws.crashes_take_all_or_nothing.Goals as goal

pub returns : goal.returns
returns c = crashes_take_all_or_nothing
