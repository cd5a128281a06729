use Rattle.coda_actors.proofs.Lives.{own_headers_are_served}
use Rattle.coda_actors.proofs.law.own_headers_are_served.Goals as goal

pub returns : goal.returns
returns g c = own_headers_are_served g.A.Actor.form
