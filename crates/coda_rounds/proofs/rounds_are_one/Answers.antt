use Rattle.coda_rounds.proofs.OneOutcome.{rounds_are_one_law as law}
use Rattle.coda_rounds.proofs.rounds_are_one.Goals as goal

pub returns : goal.returns
returns c = law
