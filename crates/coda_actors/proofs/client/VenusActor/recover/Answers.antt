use Rattle.coda_actors.specs.ClientDisks.{client_mounted, client_not_mounted, client_foreign}
use Rattle.coda_actors.proofs.client.VenusActor.recover.Goals as goal

pub returns-clause-ok : goal.returns-clause-ok
returns-clause-ok g c = λ honest. client_mounted g.D.Disk.told c.args.header.now c.args.disk c.recover.result (c.recover.ensures.ok honest)

pub returns-clause-err : goal.returns-clause-err
returns-clause-err g c = λ honest. client_not_mounted g.D.Disk.told c.args.header.now (g.D.Disk.told c.args.disk) c.recover.result (c.recover.ensures.err honest)

pub returns-clause-foreign : goal.returns-clause-foreign
returns-clause-foreign g c = λ honest. client_foreign g.D.Disk.told c.args.header.now (g.D.Disk.told c.args.disk) c.recover.result (c.recover.ensures.seen honest) (c.recover.ensures.err honest)
