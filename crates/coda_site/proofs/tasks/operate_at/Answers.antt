use Rattle.std.proofs.Common.{◌≡◌, sym, ap, ◌∙◌, rules, subst, refl}
use Rattle.std.specs.Option.{option_copied_mut, IsSome}
use Rattle.coda_actors.specs.Clients.{client_form}
use Rattle.coda_actors.specs.Slots.{is_up}
use Rattle.coda_crew.specs.Crews.{slot_at, slot_or_vacant}
use Rattle.coda_site.proofs.Slots.{lent_there}
use Rattle.coda_crew.proofs.Counts.{counts_written}
use Rattle.coda_site.proofs.Counting.{slot_counted}
use Rattle.coda_site.proofs.tasks.operate_at.Goals as goal

pub unwrap-slot-requires : goal.unwrap-slot-requires
unwrap-slot-requires g c =
    lent_there (client_form g.D.Disk.told) c.get_mut.result (ap (λ s. is_up (client_form g.D.Disk.told) (slot_or_vacant s)) c.get_mut.ensures.value ∙ c.requires.up)

pub operate_in-requires : goal.operate_in-requires
operate_in-requires g c = record {
  up = ap (λ s. is_up (client_form g.D.Disk.told) (slot_or_vacant s)) (ap option_copied_mut (sym c.unwrap-slot.ensures) ∙ c.get_mut.ensures.value) ∙ c.requires.up;
  volume = c.requires.volume;
  ask = c.requires.ask;
}

pub returns-clause-ends : goal.returns-clause-ends
returns-clause-ends g c = λ header venus slot.
    let lent = ap slot_or_vacant (ap option_copied_mut (sym c.unwrap-slot.ensures) ∙ c.get_mut.ensures.value) in
    let left : slot_at (c.get_mut.follows.lender c.operate_in.new.slot) c.args.number ≡ c.operate_in.new.slot = search rules in
    let e = c.operate_in.ensures.ends header venus (lent ∙ slot) in (e.0, left ∙ e.1, e.2, e.3)

pub returns-clause-counts : goal.returns-clause-counts
returns-clause-counts g c =
    let n = c.args.number in
    let old = c.args.clients.now in
    let put = c.operate_in.new.slot in
    let new = c.get_mut.follows.lender put in
    let found = ap option_copied_mut (sym c.unwrap-slot.ensures) ∙ c.get_mut.ensures.value in
    let left : slot_at new n ≡ put = search rules in
    slot_counted (client_form g.D.Disk.told) g.D.Disk.faults g.D.Disk.arms _ n old new _ put (counts_written n old new put (subst IsSome found refl) (c.get_mut.follows.holds put)) (sym (ap slot_or_vacant found)) left c.operate_in.ensures.counts
