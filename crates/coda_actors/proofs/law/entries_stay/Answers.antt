use Rattle.coda_actors.proofs.Lives.{entries_stay}
use Rattle.coda_actors.proofs.law.entries_stay.Goals as goal

pub returns : goal.returns
returns g c = entries_stay g.A.Actor.form
