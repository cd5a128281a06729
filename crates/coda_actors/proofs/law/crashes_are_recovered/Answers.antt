use Rattle.coda_actors.proofs.Lives.{crashes_are_recovered}
use Rattle.coda_actors.proofs.law.crashes_are_recovered.Goals as goal

pub returns : goal.returns
returns g c = crashes_are_recovered g.A.Actor.form
