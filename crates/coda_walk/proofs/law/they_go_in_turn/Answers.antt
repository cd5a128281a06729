use Rattle.coda_walk.proofs.Firsts.{who_goes_in_turn}
use Rattle.coda_walk.proofs.law.they_go_in_turn.Goals as goal

pub returns : goal.returns
returns c = λ size kept items once. who_goes_in_turn size kept items once
