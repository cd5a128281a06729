use Rattle.std.proofs.Common.{◌≡◌, ◌↔◌, Option, Some, None, IsTrue, sym, ap, ◌∙◌, subst}
use Rattle.std.specs.FinMap as map
use Rattle.coda_tree.specs.declared.node.Node.{Node}
use Rattle.coda_tree.specs.declared.slot.Held.{Held}
use Rattle.coda_tree.specs.Volume.{child, child_of, IsDirAt, IsDirNode}
use Rattle.coda_tree.specs.Slots.{Slots, Slotted, nodes_in, withdrawn}
use Rattle.coda_tree.specs.SlotEdits.{slots_bound}
use Rattle.coda_tree.specs.Keeping.{IsKeptIn}
use Rattle.coda_tree.proofs.KeptSlots.{dir_put, kept_slots_added, withdrawn_put, fresh_is}
use Rattle.coda_tree.specs.declared.undo.Undo.TheVariants.{Added}
use Rattle.coda_tree.specs.Undoing.{Undoes}
use Rattle.coda_tree.proofs.Undone.{added_undoes}
use Rattle.coda_tree.proofs.body.Body.add.Goals as goal

pub bind-requires-clause-dir_there : goal.bind-requires-clause-dir_there
bind-requires-clause-dir_there c =
    let held : Held = record { node = c.args.node; parent = Some c.args.dir } in
    let dir_there = subst (λ (b : Slotted). IsDirAt (nodes_in b.slots) c.args.dir) (sym c.self.view_is) c.requires.dir_there in
    let free = ap (λ (b : Slotted). map.get (nodes_in b.slots) c.args.fid) c.self.view_is ∙ c.requires.fid_free in
    let stays = ap (λ (t : Slots). map.get (nodes_in t) c.args.dir) c.in_ok-was.ensures.ok ∙ dir_put c.self.inside.slots c.args.fid held c.args.dir dir_there free in
    subst IsDirNode (sym stays) dir_there

pub bind-requires-clause-name_free : goal.bind-requires-clause-name_free
bind-requires-clause-name_free c =
    let held : Held = record { node = c.args.node; parent = Some c.args.dir } in
    let dir_there = subst (λ (b : Slotted). IsDirAt (nodes_in b.slots) c.args.dir) (sym c.self.view_is) c.requires.dir_there in
    let free = ap (λ (b : Slotted). map.get (nodes_in b.slots) c.args.fid) c.self.view_is ∙ c.requires.fid_free in
    let stays = ap (λ (t : Slots). map.get (nodes_in t) c.args.dir) c.in_ok-was.ensures.ok ∙ dir_put c.self.inside.slots c.args.fid held c.args.dir dir_there free in
    ap (λ (o : Option Node). child_of o c.args.name) stays ∙ ap (λ (b : Slotted). child (nodes_in b.slots) c.args.dir c.args.name) c.self.view_is ∙ c.requires.name_free

pub invariant_of-self-in-Ok : goal.invariant_of-self-in-Ok
invariant_of-self-in-Ok c =
    let dir_there = subst (λ (b : Slotted). IsDirAt (nodes_in b.slots) c.args.dir) (sym c.self.view_is) c.requires.dir_there in
    let name_free = ap (λ (b : Slotted). child (nodes_in b.slots) c.args.dir c.args.name) c.self.view_is ∙ c.requires.name_free in
    let free = ap (λ (b : Slotted). map.get (nodes_in b.slots) c.args.fid) c.self.view_is ∙ c.requires.fid_free in
    let is = c.in-Ok.ensures.ok ∙ ap (λ (t : Slots). slots_bound t c.args.dir c.args.name c.args.fid) c.in_ok-was.ensures.ok in
    subst (λ (t : Slots). IsKeptIn c.self.inside.number t) (sym is) (kept_slots_added c.self.inside.number c.self.inside.slots c.self.invariant c.args.dir c.args.name c.args.fid c.args.node dir_there name_free free c.requires.leaf)

pub invariant_of-self-in-Err : goal.invariant_of-self-in-Err
invariant_of-self-in-Err c =
    let s = c.self.inside.slots in
    let free = ap (λ (b : Slotted). map.get (nodes_in b.slots) c.args.fid) c.self.view_is ∙ c.requires.fid_free in
    let fresh = subst (λ (o : Option (Option Held)). IsTrue c.is_none-fresh.result ↔ (o ≡ None)) c.in_ok-was.ensures.was (fresh_is c.in_ok-was.was' c.is_none-fresh.result c.is_none-fresh.ensures) in
    let is = c.withdraw.ensures ∙ ap (λ (t : Slots). withdrawn c.is_none-fresh.result t c.args.fid) (c.in-Err.ensures.err ∙ c.in_ok-was.ensures.ok) ∙ withdrawn_put s c.args.fid _ c.is_none-fresh.result fresh free in
    subst (λ (t : Slots). IsKeptIn c.self.inside.number t) (sym is) c.self.invariant

pub returns-clause-err : goal.returns-clause-err
returns-clause-err c =
    let s = c.self.inside.slots in
    let free = ap (λ (b : Slotted). map.get (nodes_in b.slots) c.args.fid) c.self.view_is ∙ c.requires.fid_free in
    let fresh = subst (λ (o : Option (Option Held)). IsTrue c.is_none-fresh.result ↔ (o ≡ None)) c.in_ok-was.ensures.was (fresh_is c.in_ok-was.was' c.is_none-fresh.result c.is_none-fresh.ensures) in
    let is = c.withdraw.ensures ∙ ap (λ (t : Slots). withdrawn c.is_none-fresh.result t c.args.fid) (c.in-Err.ensures.err ∙ c.in_ok-was.ensures.ok) ∙ withdrawn_put s c.args.fid _ c.is_none-fresh.result fresh free in
    ap (λ (t : Slots). let b : Slotted = record { number = c.self.inside.number; slots = t } in b) is ∙ c.self.view_is

pub returns-in-Ok-clause-back : goal.returns-in-Ok-clause-back
returns-in-Ok-clause-back c =
    let s = c.self.inside.slots in
    let dir_there = subst (λ (b : Slotted). IsDirAt (nodes_in b.slots) c.args.dir) (sym c.self.view_is) c.requires.dir_there in
    let name_free = ap (λ (b : Slotted). child (nodes_in b.slots) c.args.dir c.args.name) c.self.view_is ∙ c.requires.name_free in
    let free = ap (λ (b : Slotted). map.get (nodes_in b.slots) c.args.fid) c.self.view_is ∙ c.requires.fid_free in
    let fresh = subst (λ (o : Option (Option Held)). IsTrue c.is_none-fresh.result ↔ (o ≡ None)) c.in_ok-was.ensures.was (fresh_is c.in_ok-was.was' c.is_none-fresh.result c.is_none-fresh.ensures) in
    let is = c.in-Ok.ensures.ok ∙ ap (λ (t : Slots). slots_bound t c.args.dir c.args.name c.args.fid) c.in_ok-was.ensures.ok in
    let undo = Added c.args.dir c.args.name c.args.fid c.is_none-fresh.result in
    subst (λ (b : Slotted). Undoes b.slots c.bind.new.self undo) c.self.view_is (subst (λ (t : Slots). Undoes s t undo) (sym is) (added_undoes s c.args.dir c.args.name c.args.fid c.args.node c.is_none-fresh.result dir_there name_free free fresh))
