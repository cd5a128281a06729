use Rattle.coda_actors.specs.ReplicaDisks.{replica_foreign}
use Rattle.coda_actors.proofs.replica.ReplicaActor.recover.Goals as goal

pub returns-clause-foreign : goal.returns-clause-foreign
returns-clause-foreign g c = λ honest. replica_foreign g.D.Disk.told c.args.header.now (g.D.Disk.told c.args.disk) c.recover.result (c.recover.ensures.seen honest) (c.recover.ensures.err honest)
