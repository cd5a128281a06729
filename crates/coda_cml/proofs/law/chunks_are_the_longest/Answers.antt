use Rattle.coda_cml.proofs.segments.LongestFront.{chunks_are_longest}
use Rattle.coda_cml.proofs.law.chunks_are_the_longest.Goals as goal

pub returns : goal.returns
returns c = chunks_are_longest
