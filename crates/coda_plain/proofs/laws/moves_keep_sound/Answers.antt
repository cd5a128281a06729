use Rattle.coda_plain.proofs.Soundness.{moves_keep_sound}
use Rattle.coda_plain.proofs.laws.moves_keep_sound.Goals as goal

pub returns : goal.returns
returns c = moves_keep_sound
