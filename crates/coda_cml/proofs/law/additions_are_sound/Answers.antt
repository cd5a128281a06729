use Rattle.coda_cml.proofs.volumes.Cancelling.{additions_sound}
use Rattle.coda_cml.proofs.law.additions_are_sound.Goals as goal

pub returns : goal.returns
returns c = additions_sound
