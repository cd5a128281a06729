use Rattle.coda_walk.proofs.Balance.{in_equilibrium}
use Rattle.coda_walk.proofs.law.plans_are_in_equilibrium.Goals as goal

pub returns : goal.returns
returns c = in_equilibrium
