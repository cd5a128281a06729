use Rattle.std.proofs.Common.{ap, sym, subst, ◌∙◌}
use Rattle.coda_actors.specs.declared.slot.Slot.TheVariants.{Started}
use Rattle.coda_matching.specs.Replicas.{journal_at}
use Rattle.coda_replica.specs.Standing.{IsUp}
use Rattle.coda_site.proofs.Calls.{same_header, same_actor}
use Rattle.coda_actors.specs.Replicas.{replica_form}
use Rattle.coda_crew.proofs.Counts.{counts_then}
use Rattle.coda_site.proofs.Counting.{slot_counted}
use Rattle.coda_site.proofs.chunks.rule_at.Goals as goal

pub returns-clause-ends : goal.returns-clause-ends
returns-clause-ends g c = λ header replica slot.
    let same = sym c.in-Started.is ∙ c.take.ensures.taken ∙ slot in (
      c.rule-said.new.replica,
      c.put.ensures.here ∙ ap (λ h. Started h c.rule-said.new.replica) (same_header c.in-Started.header header c.in-Started.actor replica same),
      λ history up is span sent. c.rule-said.ensures.ends header history span
          (subst (λ r. IsUp g.D.Disk.told header r (journal_at header.number history)) (sym (same_actor c.in-Started.header header c.in-Started.actor replica same)) up) is sent,
    )

pub returns-clause-counts : goal.returns-clause-counts
returns-clause-counts g c =
    let n = c.args.disk in
    let old = c.args.replicas.now in
    let new = c.put.new.slots in
    let called = c.rule-said.ensures in
    slot_counted (replica_form g.D.Disk.told) g.D.Disk.faults g.D.Disk.arms _ n old new (Started c.in-Started.header c.in-Started.actor) (Started c.in-Started.header c.rule-said.new.replica) (counts_then n old c.take.new.slots new c.take.ensures.counts c.put.ensures.counts)
    (sym c.take.ensures.taken ∙ c.in-Started.is) c.put.ensures.here (record { later = called.later; cause = called.cause; arms = called.arms })
