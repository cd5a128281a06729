use Rattle.std.proofs.Common.{sym, subst, ap, ◌∙◌, arith}
use Rattle.coda_cancel.specs.Numbers.{IsRising}
use Rattle.coda_cancel.specs.Slots.{kept_in}
use Rattle.coda_cancel.proofs.Places.{kept_in_rises, fewer_kept}
use Rattle.coda_cancel.proofs.shelf.Shelf.records.Goals as goal

pub in_slots-requires-clause-small : goal.in_slots-requires-clause-small
in_slots-requires-clause-small c =
    let few = fewer_kept c.self.inside.slots.items in
    let small = c.self.inside.slots.small in
    omega (arith, few, small, c.self.invariant.counted)

pub returns-clause-rising : goal.returns-clause-rising
returns-clause-rising c = subst IsRising (sym (c.in_slots.ensures ∙ ap kept_in c.deref.ensures.value)) (kept_in_rises c.self.inside.slots.items c.self.invariant.rising)
