use Rattle.std.proofs.Common.{sym, ap, ◌∙◌, subst}
use Rattle.coda_tree.specs.Volume.{child, IsDirAt, MayMove}
use Rattle.coda_tree.specs.Slots.{Slots, Slotted, nodes_in}
use Rattle.coda_tree.specs.SlotEdits.{slots_unbound}
use Rattle.coda_tree.specs.Slots.{altered, slot_moved}
use Rattle.coda_tree.specs.Keeping.{IsKeptIn}
use Rattle.coda_tree.proofs.Changes.{binder_is_dir}
use Rattle.coda_tree.proofs.KeptSlots.{kept_slots_moved, dir_bound}
use Rattle.coda_tree.specs.declared.undo.Undo.TheVariants.{Moved}
use Rattle.coda_tree.specs.Undoing.{Undoes, count_of}
use Rattle.coda_tree.proofs.Undone.{moved_undoes}
use Rattle.std.proofs.Common.{◌+◌, ◌<◌}
use Rattle.std.specs.FinMap as map
use Rattle.coda_tree.proofs.body.Body.move_to.Goals as goal

pub unbind-requires : goal.unbind-requires
unbind-requires c =
    let s = c.self.inside.slots in
    let was = ap (λ (b : Slotted). child (nodes_in b.slots) c.args.from c.args.name.now) c.self.view_is ∙ c.requires.bound in
    subst (λ (t : Slots). IsDirAt (nodes_in t) c.args.from) (sym c.in_ok-bind.ensures.ok) (dir_bound s c.args.to c.args.new c.args.fid c.args.from (binder_is_dir (nodes_in s) c.args.from c.args.name.now c.args.fid was))

pub invariant_of-self-2 : goal.invariant_of-self-2
invariant_of-self-2 c =
    let s = c.self.inside.slots in
    let was = ap (λ (b : Slotted). child (nodes_in b.slots) c.args.from c.args.name.now) c.self.view_is ∙ c.requires.bound in
    let may = subst (λ (b : Slotted). MayMove (nodes_in b.slots) c.args.from c.args.name.now c.args.to c.args.new) (sym c.self.view_is) c.requires.may in
    let is = c.set_parent.ensures ∙ ap (λ (t : Slots). altered t c.args.fid (slot_moved c.args.to)) (c.unbind.ensures ∙ ap (λ (t : Slots). slots_unbound t c.args.from c.args.name.now) c.in_ok-bind.ensures.ok) in
    subst (λ (t : Slots). IsKeptIn c.self.inside.number t) (sym is) (kept_slots_moved c.self.inside.number s c.self.invariant c.args.from c.args.name.now c.args.to c.args.new c.args.fid may was)

pub returns-clause-back : goal.returns-clause-back
returns-clause-back c room enough =
    let s = c.self.inside.slots in
    let was = ap (λ (b : Slotted). child (nodes_in b.slots) c.args.from c.args.name.now) c.self.view_is ∙ c.requires.bound in
    let may = subst (λ (b : Slotted). MayMove (nodes_in b.slots) c.args.from c.args.name.now c.args.to c.args.new) (sym c.self.view_is) c.requires.may in
    let is = c.set_parent.ensures ∙ ap (λ (t : Slots). altered t c.args.fid (slot_moved c.args.to)) (c.unbind.ensures ∙ ap (λ (t : Slots). slots_unbound t c.args.from c.args.name.now) c.in_ok-bind.ensures.ok) in
    let enough' = subst (λ (b : Slotted). count_of (map.get (nodes_in b.slots) c.args.from) + 1 < room) (sym c.self.view_is) enough in
    let undo = Moved c.args.from c.args.name.now c.args.to c.args.new c.args.fid room in
    subst (λ (b : Slotted). Undoes b.slots c.set_parent.new.self undo) c.self.view_is
    (subst (λ (t : Slots). Undoes s t undo) (sym is)
    (moved_undoes s c.args.from c.args.name.now c.args.to c.args.new c.args.fid room was may.to_dir may.free (c.self.invariant.kept.binds c.args.from c.args.name.now c.args.fid was) enough'))
