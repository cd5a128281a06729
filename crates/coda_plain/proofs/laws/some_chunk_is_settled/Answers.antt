use Rattle.coda_plain.proofs.Example.{some_chunk_is_settled}
use Rattle.coda_plain.proofs.laws.some_chunk_is_settled.Goals as goal

pub returns : goal.returns
returns c = some_chunk_is_settled
