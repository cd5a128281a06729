use Rattle.std.proofs.Common.{◌≡◌, None, sym, ap, ◌∙◌, subst}
use Rattle.coda_tree.specs.Bindings.{Name}
use Rattle.coda_tree.specs.Volume.{child}
use Rattle.coda_tree.specs.Slots.{Slots, Slotted, nodes_in}
use Rattle.coda_tree.specs.SlotEdits.{slots_vacated}
use Rattle.coda_tree.specs.Keeping.{IsKeptIn}
use Rattle.coda_tree.proofs.Changes.{binder_is_dir}
use Rattle.coda_tree.proofs.KeptSlots.{kept_slots_detached}
use Rattle.coda_tree.specs.declared.undo.Undo.TheVariants.{Detached}
use Rattle.coda_tree.specs.Undoing.{Undoes, count_of}
use Rattle.coda_tree.proofs.Undone.{detached_undoes}
use Rattle.std.proofs.Common.{◌+◌, ◌<◌}
use Rattle.coda_tree.specs.declared.slot.Held.{Held}
use Rattle.coda_tree.specs.Slots.{held_in}
use Rattle.coda_tree.specs.SlotEdits.{slots_detached}
use Rattle.std.specs.FinMap as map
use Rattle.std.proofs.Common.{Option}
use Rattle.coda_tree.proofs.body.Body.detach.Goals as goal

pub unbind-requires : goal.unbind-requires
unbind-requires c =
    binder_is_dir (nodes_in c.self.inside.slots) c.args.dir c.args.name.now c.args.fid (ap (λ (b : Slotted). child (nodes_in b.slots) c.args.dir c.args.name.now) c.self.view_is ∙ c.requires.bound)

pub invariant_of-self : goal.invariant_of-self
invariant_of-self c =
    let s = c.self.inside.slots in
    let was = ap (λ (b : Slotted). child (nodes_in b.slots) c.args.dir c.args.name.now) c.self.view_is ∙ c.requires.bound in
    let leaf = subst (λ (b : Slotted). (n : Name) → child (nodes_in b.slots) c.args.fid n ≡ None) (sym c.self.view_is) c.requires.leaf in
    let is = c.vacate.ensures.empty ∙ ap (λ (t : Slots). slots_vacated t c.args.fid) c.unbind.ensures in
    subst (λ (t : Slots). IsKeptIn c.self.inside.number t) (sym is) (kept_slots_detached c.self.inside.number s c.self.invariant c.args.dir c.args.name.now c.args.fid was leaf)

pub returns-clause-back : goal.returns-clause-back
returns-clause-back c room enough =
    let s = c.self.inside.slots in
    let was = ap (λ (b : Slotted). child (nodes_in b.slots) c.args.dir c.args.name.now) c.self.view_is ∙ c.requires.bound in
    let is = c.vacate.ensures.empty ∙ ap (λ (t : Slots). slots_vacated t c.args.fid) c.unbind.ensures in
    let held = c.vacate.ensures.held ∙ ap (λ (t : Slots). held_in (map.get t c.args.fid)) c.unbind.ensures in
    let enough' = subst (λ (b : Slotted). count_of (map.get (nodes_in b.slots) c.args.dir) + 1 < room) (sym c.self.view_is) enough in
    subst (λ (b : Slotted). Undoes b.slots c.vacate.new.self (Detached c.args.dir c.args.name.now c.args.fid c.vacate.result room)) c.self.view_is
    (subst (λ (t : Slots). Undoes s t (Detached c.args.dir c.args.name.now c.args.fid c.vacate.result room)) (sym is)
    (subst (λ (h : Option Held). Undoes s (slots_detached s c.args.dir c.args.name.now c.args.fid) (Detached c.args.dir c.args.name.now c.args.fid h room)) (sym held)
    (detached_undoes s c.args.dir c.args.name.now c.args.fid room was (c.self.invariant.volume.tree.there c.args.dir c.args.name.now c.args.fid was) enough')))
