use Rattle.coda_plain.proofs.Promised.{sound_cells_are_promised}
use Rattle.coda_plain.proofs.laws.sound_cells_are_promised.Goals as goal

pub returns : goal.returns
returns c = sound_cells_are_promised
