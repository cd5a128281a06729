use Rattle.coda_text.proofs.Spelled.{pieces_read}
use Rattle.coda_text.proofs.laws.pieces_are_read.Goals as goal

pub returns : goal.returns
returns c = λ ps h. pieces_read ps h
