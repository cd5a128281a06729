use Rattle.std.proofs.Common.{◌≡◌, ◌∷◌, [], ◌++◌, List, sym, ap, ◌∙◌, subst}
use Rattle.std.proofs.lemmas.Option.{same_Some}
use Rattle.coda_fid.specs.declared.fid.Fid.{Fid}
use Rattle.coda_tree.specs.declared.undo.Undo.{Undo}
use Rattle.coda_tree.specs.declared.undo.Undo.TheVariants.{Replaced}
use Rattle.coda_tree.specs.Bindings.{Name}
use Rattle.coda_tree.specs.Volume.{child, replaced, MayReplace}
use Rattle.coda_tree.specs.Slots.{Slotted, nodes_in}
use Rattle.coda_tree.specs.Undoing.{Undoes}
use Rattle.coda_tree.specs.Drafted.{Drafted, with_nodes}
use Rattle.coda_tree.proofs.Changes.{binder_is_dir}
use Rattle.coda_tree.proofs.KeptSlots.{nodes_replaced, places_taken}
use Rattle.coda_tree.proofs.UndoneAll.{can_pushed, drafted_pushed}
use Rattle.coda_tree.proofs.draft.Draft.replace.Goals as goal

pub room-requires : goal.room-requires
room-requires c = binder_is_dir (nodes_in c.self.inside.body.slots) c.args.from c.args.name.now c.args.fid (ap (λ (d : Drafted). child d.nodes c.args.from c.args.name.now) c.self.view_is ∙ c.requires.bound)

pub invariant_of-self-2 : goal.invariant_of-self-2
invariant_of-self-2 c =
    let b = c.self.inside.body in
    let us = c.self.inside.undos.items in
    let undo : Undo = (Replaced c.args.old c.replace-held.result c.args.from c.in_ok-kept.kept c.args.to c.in_ok-kept_new.kept_new c.args.fid c.in_ok-room.room) in
    let items = c.push_reserved.ensures.items ∙ ap (λ (l : List Undo). l ++ undo ∷ []) c.reserve.ensures.items in
    let back = subst (λ (n : Name). Undoes b.slots c.replace-held.new.self.slots (Replaced c.args.old c.replace-held.result c.args.from n c.args.to c.in_ok-kept_new.kept_new c.args.fid c.in_ok-room.room)) (sym c.in_ok-kept.ensures)
    (subst (λ (n : Name). Undoes b.slots c.replace-held.new.self.slots (Replaced c.args.old c.replace-held.result c.args.from c.args.name.now c.args.to n c.args.fid c.in_ok-room.room)) (sym c.in_ok-kept_new.ensures) (c.replace-held.ensures.back c.in_ok-room.room c.in_ok-room.ensures)) in
    can_pushed b.number c.replace-held.new.self.number b.slots c.replace-held.new.self.slots us c.push_reserved.new.self.items undo (ap (λ (x : Slotted). x.number) c.replace-held.ensures.slots) items c.self.invariant back

pub returns-clause-ok : goal.returns-clause-ok
returns-clause-ok c =
    let b = c.self.inside.body in
    let us = c.self.inside.undos.items in
    let undo : Undo = (Replaced c.args.old c.replace-held.result c.args.from c.in_ok-kept.kept c.args.to c.in_ok-kept_new.kept_new c.args.fid c.in_ok-room.room) in
    let items = c.push_reserved.ensures.items ∙ ap (λ (l : List Undo). l ++ undo ∷ []) c.reserve.ensures.items in
    let back = subst (λ (n : Name). Undoes b.slots c.replace-held.new.self.slots (Replaced c.args.old c.replace-held.result c.args.from n c.args.to c.in_ok-kept_new.kept_new c.args.fid c.in_ok-room.room)) (sym c.in_ok-kept.ensures)
    (subst (λ (n : Name). Undoes b.slots c.replace-held.new.self.slots (Replaced c.args.old c.replace-held.result c.args.from c.args.name.now c.args.to n c.args.fid c.in_ok-room.room)) (sym c.in_ok-kept_new.ensures) (c.replace-held.ensures.back c.in_ok-room.room c.in_ok-room.ensures)) in
    let m = nodes_in b.slots in
    let was = ap (λ (d : Drafted). child d.nodes c.args.from c.args.name.now) c.self.view_is ∙ c.requires.bound in
    let may = subst (λ (d : Drafted). MayReplace d.nodes c.args.old c.args.from c.args.name.now c.args.to c.args.new.now) (sym c.self.view_is) c.requires.may in
    let differ = subst (λ (g : Fid). (c.args.old ≡ g) → ⊥) (same_Some may.fid c.args.fid (sym may.was ∙ was)) may.differ in
    let nodes = ap (λ (x : Slotted). nodes_in x.slots) c.replace-held.ensures.slots
    ∙ nodes_replaced b.slots c.args.old c.args.from c.args.name.now c.args.to c.args.new.now c.args.fid (places_taken m c.args.from c.args.name.now c.args.to c.args.new.now c.args.fid c.args.old was may.had differ) in
    drafted_pushed b c.replace-held.new.self us c.push_reserved.new.self.items undo _ (ap (λ (x : Slotted). x.number) c.replace-held.ensures.slots) items back nodes
    ∙ ap (λ (d : Drafted). with_nodes d (replaced d.nodes c.args.old c.args.from c.args.name.now c.args.to c.args.new.now c.args.fid)) c.self.view_is
