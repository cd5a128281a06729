use Rattle.coda_actors.proofs.Lives.{actors_stay_at_rest, held_rests}
use Rattle.coda_actors.proofs.law.actors_are_at_rest.Goals as goal

pub returns-clause-stay : goal.returns-clause-stay
returns-clause-stay g c = actors_stay_at_rest g.A.Actor.form

pub returns-clause-fits : goal.returns-clause-fits
returns-clause-fits g c = held_rests g.A.Actor.form g.D.Disk.told c.args.slot.now
