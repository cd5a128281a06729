use Rattle.coda_rounds.proofs.Bounds.{calls_fetch_few as law}
use Rattle.coda_rounds.proofs.calls_fetch_few.Goals as goal

pub returns : goal.returns
returns c = law
