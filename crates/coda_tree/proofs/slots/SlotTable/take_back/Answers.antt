use Rattle.std.proofs.Common.{sym, ap, ◌∙◌, subst}
use Rattle.std.specs.FinMap as map
use Rattle.coda_tree.specs.Volume.{bind_in}
use Rattle.coda_tree.specs.Slots.{Slots, keyed, nodes_in, slot_changed}
use Rattle.coda_tree.specs.SlotSteps.{MayTakeBackSlot}
use Rattle.coda_tree.specs.SlotEdits.{slots_bound}
use Rattle.coda_tree.specs.Undoing.{MayTakeBack}
use Rattle.coda_tree.proofs.Keyed.{keyed_altered}
use Rattle.coda_tree.proofs.SlotMap.{count_changed, take_back_slot, held_kept}
use Rattle.coda_tree.proofs.slots.SlotTable.take_back.Goals as goal

pub take_back-requires : goal.take_back-requires
take_back-requires c =
    held_kept (λ slot. MayTakeBackSlot slot c.args.name c.args.room) c.self.inside.slots.entries c.args.dir
    (take_back_slot (keyed c.self.inside.slots.entries) c.args.dir c.args.name c.args.room (subst (λ (s : Slots). MayTakeBack s c.args.dir c.args.name c.args.room) (sym c.self.view_is) c.requires))

pub invariant_of-self : goal.invariant_of-self
invariant_of-self c =
    let old = c.self.inside.slots.entries in
    let is = keyed_altered old c.take_back.new.slots.entries c.args.dir (slot_changed (λ node. bind_in node c.args.name c.args.fid)) c.take_back.ensures in
    c.self.invariant ∙ sym (ap (λ (s : Slots). map.len (nodes_in s)) is ∙ count_changed (keyed old) c.args.dir (λ node. bind_in node c.args.name c.args.fid))

pub returns : goal.returns
returns c =
    keyed_altered c.self.inside.slots.entries c.take_back.new.slots.entries c.args.dir (slot_changed (λ node. bind_in node c.args.name c.args.fid)) c.take_back.ensures
    ∙ ap (λ (s : Slots). slots_bound s c.args.dir c.args.name c.args.fid) c.self.view_is
