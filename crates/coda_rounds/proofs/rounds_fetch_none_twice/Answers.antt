use Rattle.coda_rounds.proofs.Others.{fetch_others as law}
use Rattle.coda_rounds.proofs.rounds_fetch_none_twice.Goals as goal

pub returns : goal.returns
returns c = law
