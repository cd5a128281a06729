use Rattle.coda_cml.proofs.volumes.Cancelling.{sound}
use Rattle.coda_cml.proofs.law.cancellation_is_sound.Goals as goal

pub returns : goal.returns
returns c = sound
