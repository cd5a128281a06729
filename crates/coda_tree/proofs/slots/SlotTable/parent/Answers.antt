use Rattle.std.proofs.Common.{Option, sym, ap, ◌∙◌}
use Rattle.std.specs.FinMap as map
use Rattle.coda_tree.specs.declared.slot.Held.{Held}
use Rattle.coda_tree.specs.Slots.{Slots, held_in, parent_held}
use Rattle.coda_tree.proofs.Keyed.{get_keyed}
use Rattle.coda_tree.proofs.slots.SlotTable.parent.Goals as goal

pub returns-in-Some-Some : goal.returns-in-Some-Some
returns-in-Some-Some c =
    let at = ap (λ (s : Slots). map.get s c.args.fid) (sym c.self.view_is) ∙ get_keyed c.self.inside.slots.entries c.args.fid ∙ sym c.in-Some-Some.ensures.value in
    sym (ap (λ (o : Option (Option Held)). parent_held (held_in o)) at ∙ ap parent_held c.in-Some-Some.field-0-is)

pub returns-in-Some-None : goal.returns-in-Some-None
returns-in-Some-None c =
    let at = ap (λ (s : Slots). map.get s c.args.fid) (sym c.self.view_is) ∙ get_keyed c.self.inside.slots.entries c.args.fid ∙ sym c.in-Some-None.ensures.value in
    sym (ap (λ (o : Option (Option Held)). parent_held (held_in o)) at ∙ ap parent_held c.in-Some-None.field-0-is)

pub returns-in-None : goal.returns-in-None
returns-in-None c =
    let at = ap (λ (s : Slots). map.get s c.args.fid) (sym c.self.view_is) ∙ get_keyed c.self.inside.slots.entries c.args.fid ∙ sym c.in-None.ensures.value in
    sym (ap (λ (o : Option (Option Held)). parent_held (held_in o)) at)
