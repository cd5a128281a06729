use Rattle.coda_plain.proofs.Soundness.{runs_are_sound}
use Rattle.coda_plain.proofs.laws.runs_are_sound.Goals as goal

pub returns : goal.returns
returns c = runs_are_sound
