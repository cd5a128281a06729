use Rattle.coda_rounds.proofs.Answering.{calls_fetch_none_twice as law}
use Rattle.coda_rounds.proofs.calls_fetch_none_twice.Goals as goal

pub returns : goal.returns
returns c = law
