use Rattle.std.proofs.Common.{sym, ap, subst, ◌∙◌}
use Rattle.coda_actors.specs.declared.slot.Slot.TheVariants.{Started}
use Rattle.coda_matching.specs.Clients.{journal_by}
use Rattle.coda_venus.specs.Standing.{IsUp}
use Rattle.coda_site.proofs.Calls.{same_header, same_actor}
use Rattle.coda_actors.specs.Clients.{client_form}
use Rattle.coda_site.proofs.Counting.{counted_from}
use Rattle.coda_site.proofs.tasks.show_in.Goals as goal

pub returns-clause-ends : goal.returns-clause-ends
returns-clause-ends g c = λ header venus slot.
    let same = sym c.in-Started.is ∙ slot in (
      c.show.new.venus,
      ap (λ h. Started h c.show.new.venus) (same_header c.in-Started.header header c.in-Started.actor venus same),
      g.met.D.Disk.seen_now c.show.new.venus.journal.disk,
      λ history up lawful spelled. c.show.ensures.ends header history (subst (λ v. IsUp g.D.Disk.told header v (journal_by history)) (sym (same_actor c.in-Started.header header c.in-Started.actor venus same)) up) lawful spelled,
    )

pub returns-clause-counts : goal.returns-clause-counts
returns-clause-counts g c =
    counted_from (client_form g.D.Disk.told) g.D.Disk.faults g.D.Disk.arms _ c.args.slot.now (Started c.in-Started.header c.in-Started.actor) _ c.in-Started.is (record { later = c.show.ensures.later; cause = c.show.ensures.cause; arms = c.show.ensures.arms })
