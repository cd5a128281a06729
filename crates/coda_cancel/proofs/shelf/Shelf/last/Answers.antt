use Rattle.std.proofs.Common.{◌≡◌, ◌∙◌, Some, ap, sym, subst, ◌-◌, length}
use Rattle.std.specs.Prelude.{slice_get, option_map}
use Rattle.coda_cancel.specs.Mentions.{last_number}
use Rattle.coda_cancel.specs.Numbers.{IsRising}
use Rattle.coda_cancel.specs.Shelved.{Shelved}
use Rattle.coda_cancel.specs.Slots.{number_of}
use Rattle.coda_cancel.proofs.Places.{last_at, last_number_at, kept_in_rises}
use Rattle.coda_cancel.proofs.shelf.Shelf.last.Goals as goal

pub returns-in-Some-clause-last : goal.returns-in-Some-clause-last
returns-in-Some-clause-last c =
    let at : Some c.in-Some.slot.now ≡ slice_get c.self.inside.slots.items (length c.self.inside.slots.items - 1) = c.in-Some.ensures.value ∙ ap (λ l. slice_get l (length l - 1)) c.deref.ensures.value in
    ap Some c.number.ensures ∙ ap (option_map number_of) (sym (last_at c.self.inside.slots.items c.in-Some.slot.now at)) ∙ sym (last_number_at c.self.inside.slots.items c.self.invariant.last) ∙ ap (λ (s : Shelved). last_number s.records) c.self.view_is

pub returns-in-Some-clause-rising : goal.returns-in-Some-clause-rising
returns-in-Some-clause-rising c = subst (λ (s : Shelved). IsRising s.records) c.self.view_is (kept_in_rises c.self.inside.slots.items c.self.invariant.rising)
