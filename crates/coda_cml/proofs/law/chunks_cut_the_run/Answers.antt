use Rattle.coda_cml.proofs.segments.Fronts.{chunks_cut}
use Rattle.coda_cml.proofs.law.chunks_cut_the_run.Goals as goal

pub returns : goal.returns
returns c = chunks_cut
