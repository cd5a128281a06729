use Rattle.std.proofs.Common.{ap, sym, subst, ◌∙◌}
use Rattle.coda_actors.specs.declared.slot.Slot.TheVariants.{Started}
use Rattle.coda_crew.specs.Crews.{slot_at}
use Rattle.coda_matching.specs.Clients.{journal_by}
use Rattle.coda_venus.specs.Standing.{IsUp}
use Rattle.coda_site.proofs.Calls.{same_header, same_actor}
use Rattle.coda_actors.specs.Clients.{client_form}
use Rattle.coda_crew.proofs.Counts.{counts_then}
use Rattle.coda_site.proofs.Counting.{slot_counted}
use Rattle.coda_site.proofs.chunks.freeze_at.Goals as goal

pub returns-clause-ends : goal.returns-clause-ends
returns-clause-ends g c = λ header venus slot.
    let same = sym c.in-Started.is ∙ c.take.ensures.taken ∙ ap (slot_at c.args.clients.now) c.from-number.ensures ∙ slot in (
      c.freeze_for-said.new.venus,
      ap (slot_at c.put.new.slots) (sym c.from-number.ensures) ∙ c.put.ensures.here ∙ ap (λ h. Started h c.freeze_for-said.new.venus) (same_header c.in-Started.header header c.in-Started.actor venus same),
      λ history up is. c.freeze_for-said.ensures.ends header history (subst (λ v. IsUp g.D.Disk.told header v (journal_by history)) (sym (same_actor c.in-Started.header header c.in-Started.actor venus same)) up) is,
    )

pub returns-clause-seen : goal.returns-clause-seen
returns-clause-seen g c = g.met.D.Disk.seen_now

pub returns-clause-counts : goal.returns-clause-counts
returns-clause-counts g c =
    let n = c.from-number.result in
    let old = c.args.clients.now in
    let new = c.put.new.slots in
    let called = c.freeze_for-said.ensures in
    slot_counted (client_form g.D.Disk.told) g.D.Disk.faults g.D.Disk.arms _ n old new (Started c.in-Started.header c.in-Started.actor) (Started c.in-Started.header c.freeze_for-said.new.venus) (counts_then n old c.take.new.slots new c.take.ensures.counts c.put.ensures.counts)
    (sym c.take.ensures.taken ∙ c.in-Started.is) c.put.ensures.here (record { later = called.later; cause = called.cause; arms = called.arms })
