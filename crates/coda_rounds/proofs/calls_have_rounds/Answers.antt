use Rattle.coda_rounds.proofs.Bounds.{calls_have_rounds as law}
use Rattle.coda_rounds.proofs.calls_have_rounds.Goals as goal

pub returns : goal.returns
returns c = law
