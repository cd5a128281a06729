use Rattle.std.proofs.Common.{◌≡◌, ◌++◌, [], sym, ap, ◌∙◌, subst, arith}
use Rattle.std.proofs.lemmas.List.{nil_from_length}
use Rattle.coda_cancel.specs.Numbers.{IsRising}
use Rattle.coda_cancel.specs.Slots.{kept_in}
use Rattle.coda_cancel.proofs.Places.{kept_in_rises, fewer_kept}
use Rattle.coda_cancel.proofs.shelf.Shelf.into_records.Goals as goal

pub empty-requires : goal.empty-requires
empty-requires c = let few = fewer_kept c.self.inside.slots.items in omega (arith, few, c.self.invariant.empty, c.self.invariant.room)

pub returns-clause-rising : goal.returns-clause-rising
returns-clause-rising c =
    let none : c.self.inside.spare.items ≡ [] = nil_from_length c.self.inside.spare.items (omega (arith, c.self.invariant.empty)) in
    subst IsRising (sym (c.empty.ensures ∙ ap (λ l. l ++ kept_in c.self.inside.slots.items) none)) (kept_in_rises c.self.inside.slots.items c.self.invariant.rising)
