use Rattle.std.proofs.Common.{IsSome, sym, ap, ◌∙◌, subst}
use Rattle.std.specs.FinMap as map
use Rattle.coda_tree.specs.Volume.{child, IsDirAt, bind_in}
use Rattle.coda_tree.specs.Slots.{Slots, keyed, nodes_in, altered, slot_changed}
use Rattle.coda_tree.specs.SlotSteps.{MayRebindSlot}
use Rattle.coda_tree.proofs.Keyed.{keyed_altered}
use Rattle.coda_tree.proofs.SlotMap.{count_changed, rebind_slot, held_kept}
use Rattle.coda_tree.proofs.slots.SlotTable.rebind.Goals as goal

pub rebind-requires : goal.rebind-requires
rebind-requires c =
    held_kept (λ slot. MayRebindSlot slot c.args.name.now) c.self.inside.slots.entries c.args.dir (rebind_slot (keyed c.self.inside.slots.entries) c.args.dir c.args.name.now
    (subst (λ (s : Slots). IsDirAt (nodes_in s) c.args.dir) (sym c.self.view_is) c.requires.dir_there) (subst (λ (s : Slots). IsSome (child (nodes_in s) c.args.dir c.args.name.now)) (sym c.self.view_is) c.requires.name_bound))

pub invariant_of-self : goal.invariant_of-self
invariant_of-self c =
    let old = c.self.inside.slots.entries in
    let is = keyed_altered old c.rebind.new.slots.entries c.args.dir (slot_changed (λ node. bind_in node c.args.name.now c.args.fid)) c.rebind.ensures in
    c.self.invariant ∙ sym (ap (λ (s : Slots). map.len (nodes_in s)) is ∙ count_changed (keyed old) c.args.dir (λ node. bind_in node c.args.name.now c.args.fid))

pub returns : goal.returns
returns c =
    keyed_altered c.self.inside.slots.entries c.rebind.new.slots.entries c.args.dir (slot_changed (λ node. bind_in node c.args.name.now c.args.fid)) c.rebind.ensures
    ∙ ap (λ (s : Slots). altered s c.args.dir (slot_changed (λ node. bind_in node c.args.name.now c.args.fid))) c.self.view_is
