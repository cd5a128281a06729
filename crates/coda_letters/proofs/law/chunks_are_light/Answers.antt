use Rattle.coda_letters.proofs.Spelled.{chunks_are_light}
use Rattle.coda_letters.proofs.law.chunks_are_light.Goals as goal

pub returns : goal.returns
returns c = chunks_are_light
