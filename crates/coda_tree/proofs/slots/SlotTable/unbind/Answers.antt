use Rattle.std.proofs.Common.{sym, ap, ◌∙◌, subst}
use Rattle.std.specs.FinMap as map
use Rattle.coda_tree.specs.Volume.{IsDirAt, unbind_in}
use Rattle.coda_tree.specs.Slots.{Slots, keyed, nodes_in, altered, slot_changed}
use Rattle.coda_tree.specs.SlotSteps.{IsDirSlot}
use Rattle.coda_tree.proofs.Keyed.{keyed_altered}
use Rattle.coda_tree.proofs.SlotMap.{count_changed, dir_slot, held_kept}
use Rattle.coda_tree.proofs.slots.SlotTable.unbind.Goals as goal

pub unbind-requires : goal.unbind-requires
unbind-requires c =
    held_kept IsDirSlot c.self.inside.slots.entries c.args.dir (dir_slot (keyed c.self.inside.slots.entries) c.args.dir (subst (λ (s : Slots). IsDirAt (nodes_in s) c.args.dir) (sym c.self.view_is) c.requires))

pub invariant_of-self : goal.invariant_of-self
invariant_of-self c =
    let old = c.self.inside.slots.entries in
    let is = keyed_altered old c.unbind.new.slots.entries c.args.dir (slot_changed (λ node. unbind_in node c.args.name.now)) c.unbind.ensures in
    c.self.invariant ∙ sym (ap (λ (s : Slots). map.len (nodes_in s)) is ∙ count_changed (keyed old) c.args.dir (λ node. unbind_in node c.args.name.now))

pub returns : goal.returns
returns c =
    keyed_altered c.self.inside.slots.entries c.unbind.new.slots.entries c.args.dir (slot_changed (λ node. unbind_in node c.args.name.now)) c.unbind.ensures
    ∙ ap (λ (s : Slots). altered s c.args.dir (slot_changed (λ node. unbind_in node c.args.name.now))) c.self.view_is
