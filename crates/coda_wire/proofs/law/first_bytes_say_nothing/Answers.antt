use Rattle.coda_wire.proofs.Cut.{first_bytes_say_nothing}
use Rattle.coda_wire.proofs.law.first_bytes_say_nothing.Goals as goal

pub returns : goal.returns
returns c = first_bytes_say_nothing
