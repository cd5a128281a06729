use Rattle.std.proofs.Common.{arith, sym, subst}
use Rattle.coda_certify.specs.declared.verdict.Verdict.{Verdict}
use Rattle.coda_certify.specs.declared.verdict.Verdict.TheVariants.{Applied}
use Rattle.coda_record.specs.declared.entry.ReplicaEntry.TheVariants.{Decide}
use Rattle.coda_replica.specs.Deciding.{Keeping}
use Rattle.coda_replica.specs.History.{payload_of}
use Rattle.coda_replica.proofs.Keeps.{nothing_back}
use Rattle.coda_replica.proofs.replica.Replica.keep_verdict.Goals as goal

pub returns-in-Applied-clause-keeps : goal.returns-in-Applied-clause-keeps
returns-in-Applied-clause-keeps g c = λ header payloads is.
    subst (λ (v : Verdict). Keeping g.D.Disk.told header c.args.self.now.journal payloads (payload_of (Decide c.args.client c.args.number c.args.recs.now v)) c.keep.new.self c.keep.result) (sym c.in-Applied.is)
    (c.keep.ensures.keeps header payloads (payload_of (Decide c.args.client c.args.number c.args.recs.now Applied)) c.requires.entry is)

pub returns-in-Applied-clause-back : goal.returns-in-Applied-clause-back
returns-in-Applied-clause-back g c =
    nothing_back c.args.self.now.decider c.args.client c.args.was c.args.verdict.now c.keep.new.self.decider c.keep.result c.keep.ensures.fault (λ full. let no = c.keep.ensures.full.1 full in let room = c.requires.room in omega (arith, no, room))
