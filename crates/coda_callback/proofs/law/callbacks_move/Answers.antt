use Rattle.coda_callback.proofs.Moves.{callbacks_move}
use Rattle.coda_callback.proofs.law.callbacks_move.Goals as goal

pub returns : goal.returns
returns c = callbacks_move
