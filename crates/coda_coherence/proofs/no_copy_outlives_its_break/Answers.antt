use Rattle.coda_coherence.proofs.Outliving.{no_copy_outlives as law}
use Rattle.coda_coherence.proofs.no_copy_outlives_its_break.Goals as goal

pub returns : goal.returns
returns c = law
