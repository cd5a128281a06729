use Rattle.coda_actors.proofs.Lives.{added, failed}
use Rattle.coda_actors.proofs.law.additions_fit.Goals as goal

pub returns-clause-added : goal.returns-clause-added
returns-clause-added g c = λ header plain entry fits up. added g.A.Actor.form header c.args.before.now plain entry fits c.args.after.now up

pub returns-clause-failed : goal.returns-clause-failed
returns-clause-failed g c = λ header plain entry fits may stands.
    failed g.A.Actor.form header c.args.before.now plain entry fits (g.D.Disk.told (g.A.Actor.form.disk c.args.after.now)) (g.met.A.Actor.lawful c.args.before.now header plain.disk.history fits.up).1 may stands
