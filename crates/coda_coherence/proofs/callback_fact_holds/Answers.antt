use Rattle.coda_coherence.proofs.Keeping.{callback_fact_holds as law}
use Rattle.coda_coherence.proofs.callback_fact_holds.Goals as goal

pub returns : goal.returns
returns c = law
