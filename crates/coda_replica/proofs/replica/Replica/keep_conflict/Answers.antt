use Rattle.coda_record.specs.declared.entry.ReplicaEntry.TheVariants.{Decide}
use Rattle.coda_replica.specs.History.{payload_of}
use Rattle.coda_replica.proofs.Keeps.{keeping_else}
use Rattle.coda_replica.proofs.replica.Replica.keep_conflict.Goals as goal

pub returns-in-Err-clause-keeps : goal.returns-in-Err-clause-keeps
returns-in-Err-clause-keeps g c = λ header payloads is.
    keeping_else g.D.Disk.told header c.args.self.now.journal payloads (payload_of (Decide c.args.client c.args.number c.args.recs.now c.args.verdict.now)) c.keep_decision.new.self c.put_back.new.self c.in-Err.e
    (c.in-Err.ensures.keeps header payloads is)
