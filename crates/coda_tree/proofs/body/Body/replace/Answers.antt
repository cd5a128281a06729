use Rattle.std.proofs.Common.{sym, ap, ◌∙◌, subst}
use Rattle.coda_tree.specs.Volume.{child, IsDirAt, MayReplace}
use Rattle.coda_tree.specs.Slots.{Slots, Slotted, nodes_in}
use Rattle.coda_tree.specs.SlotEdits.{slots_unbound, slots_vacated}
use Rattle.coda_tree.specs.Slots.{altered, slot_moved}
use Rattle.coda_tree.specs.Keeping.{IsKeptIn}
use Rattle.coda_tree.proofs.Changes.{binder_is_dir}
use Rattle.coda_tree.proofs.KeptSlots.{kept_slots_replaced, dir_bound}
use Rattle.coda_tree.specs.declared.undo.Undo.TheVariants.{Replaced}
use Rattle.coda_tree.specs.Undoing.{Undoes, count_of}
use Rattle.coda_tree.proofs.Undone.{replaced_undoes}
use Rattle.std.proofs.Common.{◌≡◌, ◌+◌, ◌<◌, Option}
use Rattle.std.proofs.lemmas.Option.{same_Some}
use Rattle.coda_fid.specs.declared.fid.Fid.{Fid}
use Rattle.coda_tree.specs.declared.slot.Held.{Held}
use Rattle.coda_tree.specs.Slots.{held_in}
use Rattle.coda_tree.specs.SlotEdits.{slots_replaced}
use Rattle.std.specs.FinMap as map
use Rattle.coda_tree.proofs.body.Body.replace.Goals as goal

pub rebind-requires-clause-dir_there : goal.rebind-requires-clause-dir_there
rebind-requires-clause-dir_there c =
    let may = subst (λ (b : Slotted). MayReplace (nodes_in b.slots) c.args.old c.args.from c.args.name.now c.args.to c.args.new.now) (sym c.self.view_is) c.requires.may in
    binder_is_dir (nodes_in c.self.inside.slots) c.args.to c.args.new.now c.args.old may.had

pub unbind-requires : goal.unbind-requires
unbind-requires c =
    let s = c.self.inside.slots in
    let was = ap (λ (b : Slotted). child (nodes_in b.slots) c.args.from c.args.name.now) c.self.view_is ∙ c.requires.bound in
    subst (λ (t : Slots). IsDirAt (nodes_in t) c.args.from) (sym c.rebind.ensures) (dir_bound s c.args.to c.args.new.now c.args.fid c.args.from (binder_is_dir (nodes_in s) c.args.from c.args.name.now c.args.fid was))

pub invariant_of-self : goal.invariant_of-self
invariant_of-self c =
    let s = c.self.inside.slots in
    let was = ap (λ (b : Slotted). child (nodes_in b.slots) c.args.from c.args.name.now) c.self.view_is ∙ c.requires.bound in
    let may = subst (λ (b : Slotted). MayReplace (nodes_in b.slots) c.args.old c.args.from c.args.name.now c.args.to c.args.new.now) (sym c.self.view_is) c.requires.may in
    let over = c.unbind.ensures ∙ ap (λ (t : Slots). slots_unbound t c.args.from c.args.name.now) c.rebind.ensures in
    let is = c.set_parent.ensures ∙ ap (λ (t : Slots). altered t c.args.fid (slot_moved c.args.to)) (c.vacate-held.ensures.empty ∙ ap (λ (t : Slots). slots_vacated t c.args.old) over) in
    subst (λ (t : Slots). IsKeptIn c.self.inside.number t) (sym is) (kept_slots_replaced c.self.inside.number s c.self.invariant c.args.old c.args.from c.args.name.now c.args.to c.args.new.now c.args.fid may was)

pub returns-clause-back : goal.returns-clause-back
returns-clause-back c room enough =
    let s = c.self.inside.slots in
    let was = ap (λ (b : Slotted). child (nodes_in b.slots) c.args.from c.args.name.now) c.self.view_is ∙ c.requires.bound in
    let may = subst (λ (b : Slotted). MayReplace (nodes_in b.slots) c.args.old c.args.from c.args.name.now c.args.to c.args.new.now) (sym c.self.view_is) c.requires.may in
    let differ = subst (λ (g : Fid). (c.args.old ≡ g) → ⊥) (same_Some may.fid c.args.fid (sym may.was ∙ was)) may.differ in
    let over = c.unbind.ensures ∙ ap (λ (t : Slots). slots_unbound t c.args.from c.args.name.now) c.rebind.ensures in
    let is = c.set_parent.ensures ∙ ap (λ (t : Slots). altered t c.args.fid (slot_moved c.args.to)) (c.vacate-held.ensures.empty ∙ ap (λ (t : Slots). slots_vacated t c.args.old) over) in
    let held = c.vacate-held.ensures.held ∙ ap (λ (t : Slots). held_in (map.get t c.args.old)) over in
    let enough' = subst (λ (b : Slotted). count_of (map.get (nodes_in b.slots) c.args.from) + 1 < room) (sym c.self.view_is) enough in
    subst (λ (b : Slotted). Undoes b.slots c.set_parent.new.self (Replaced c.args.old c.vacate-held.result c.args.from c.args.name.now c.args.to c.args.new.now c.args.fid room)) c.self.view_is
    (subst (λ (t : Slots). Undoes s t (Replaced c.args.old c.vacate-held.result c.args.from c.args.name.now c.args.to c.args.new.now c.args.fid room)) (sym is)
    (subst (λ (h : Option Held). Undoes s (slots_replaced s c.args.old c.args.from c.args.name.now c.args.to c.args.new.now c.args.fid) (Replaced c.args.old h c.args.from c.args.name.now c.args.to c.args.new.now c.args.fid room)) (sym held)
    (replaced_undoes s c.args.old c.args.from c.args.name.now c.args.to c.args.new.now c.args.fid room was may.had differ (c.self.invariant.volume.tree.there c.args.to c.args.new.now c.args.old may.had) (c.self.invariant.kept.binds c.args.from c.args.name.now c.args.fid was) enough')))
