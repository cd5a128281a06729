use Rattle.coda_record.specs.declared.entry.ReplicaEntry.TheVariants.{Decide}
use Rattle.coda_replica.specs.History.{payload_of}
use Rattle.coda_replica.proofs.replica.Replica.keep_decision.Goals as goal

pub returns-clause-keeps : goal.returns-clause-keeps
returns-clause-keeps g c = λ header payloads is.
    c.keep.ensures.keeps header payloads (payload_of (Decide c.args.client c.args.number c.args.recs.now c.args.verdict.now)) c.in_ok-frame.ensures is
