use Rattle.std.proofs.Common.{Option, sym, ap, ◌∙◌}
use Rattle.std.specs.FinMap as map
use Rattle.coda_tree.specs.declared.slot.Held.{Held}
use Rattle.coda_tree.specs.Slots.{Slots, held_in, node_held}
use Rattle.coda_tree.proofs.Keyed.{get_keyed}
use Rattle.coda_tree.proofs.SlotMap.{get_nodes_in}
use Rattle.coda_tree.proofs.slots.SlotTable.get.Goals as goal

pub returns-in-Some-Some : goal.returns-in-Some-Some
returns-in-Some-Some c =
    let at = ap (λ (s : Slots). map.get s c.args.fid) (sym c.self.view_is) ∙ get_keyed c.self.inside.slots.entries c.args.fid ∙ sym c.in-Some-Some.ensures.value in
    sym (get_nodes_in c.args.self.now c.args.fid ∙ ap (λ (o : Option (Option Held)). node_held (held_in o)) at ∙ ap node_held c.in-Some-Some.field-0-is)

pub returns-in-Some-None : goal.returns-in-Some-None
returns-in-Some-None c =
    let at = ap (λ (s : Slots). map.get s c.args.fid) (sym c.self.view_is) ∙ get_keyed c.self.inside.slots.entries c.args.fid ∙ sym c.in-Some-None.ensures.value in
    sym (get_nodes_in c.args.self.now c.args.fid ∙ ap (λ (o : Option (Option Held)). node_held (held_in o)) at ∙ ap node_held c.in-Some-None.field-0-is)

pub returns-in-None : goal.returns-in-None
returns-in-None c =
    let at = ap (λ (s : Slots). map.get s c.args.fid) (sym c.self.view_is) ∙ get_keyed c.self.inside.slots.entries c.args.fid ∙ sym c.in-None.ensures.value in
    sym (get_nodes_in c.args.self.now c.args.fid ∙ ap (λ (o : Option (Option Held)). node_held (held_in o)) at)
