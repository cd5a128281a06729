use Rattle.std.proofs.Common.{◌∷◌, [], ◌++◌, List, sym, ap, ◌∙◌, subst}
use Rattle.coda_tree.specs.declared.undo.Undo.{Undo}
use Rattle.coda_tree.specs.declared.undo.Undo.TheVariants.{Detached}
use Rattle.coda_tree.specs.Bindings.{Name}
use Rattle.coda_tree.specs.Volume.{child, detached}
use Rattle.coda_tree.specs.Slots.{Slotted, nodes_in}
use Rattle.coda_tree.specs.Undoing.{Undoes}
use Rattle.coda_tree.specs.Drafted.{Drafted, with_nodes}
use Rattle.coda_tree.proofs.Changes.{binder_is_dir}
use Rattle.coda_tree.proofs.KeptSlots.{nodes_detached}
use Rattle.coda_tree.proofs.UndoneAll.{can_pushed, drafted_pushed}
use Rattle.coda_tree.proofs.draft.Draft.detach.Goals as goal

pub room-requires : goal.room-requires
room-requires c = binder_is_dir (nodes_in c.self.inside.body.slots) c.args.dir c.args.name.now c.args.fid (ap (λ (d : Drafted). child d.nodes c.args.dir c.args.name.now) c.self.view_is ∙ c.requires.bound)

pub invariant_of-self-2 : goal.invariant_of-self-2
invariant_of-self-2 c =
    let b = c.self.inside.body in
    let us = c.self.inside.undos.items in
    let undo : Undo = (Detached c.args.dir c.in_ok-kept.kept c.args.fid c.detach-held.result c.in_ok-room.room) in
    let items = c.push_reserved.ensures.items ∙ ap (λ (l : List Undo). l ++ undo ∷ []) c.reserve.ensures.items in
    let back = subst (λ (n : Name). Undoes b.slots c.detach-held.new.self.slots (Detached c.args.dir n c.args.fid c.detach-held.result c.in_ok-room.room)) (sym c.in_ok-kept.ensures) (c.detach-held.ensures.back c.in_ok-room.room c.in_ok-room.ensures) in
    can_pushed b.number c.detach-held.new.self.number b.slots c.detach-held.new.self.slots us c.push_reserved.new.self.items undo (ap (λ (x : Slotted). x.number) c.detach-held.ensures.slots) items c.self.invariant back

pub returns-clause-ok : goal.returns-clause-ok
returns-clause-ok c =
    let b = c.self.inside.body in
    let us = c.self.inside.undos.items in
    let undo : Undo = (Detached c.args.dir c.in_ok-kept.kept c.args.fid c.detach-held.result c.in_ok-room.room) in
    let items = c.push_reserved.ensures.items ∙ ap (λ (l : List Undo). l ++ undo ∷ []) c.reserve.ensures.items in
    let back = subst (λ (n : Name). Undoes b.slots c.detach-held.new.self.slots (Detached c.args.dir n c.args.fid c.detach-held.result c.in_ok-room.room)) (sym c.in_ok-kept.ensures) (c.detach-held.ensures.back c.in_ok-room.room c.in_ok-room.ensures) in
    let nodes = ap (λ (x : Slotted). nodes_in x.slots) c.detach-held.ensures.slots ∙ nodes_detached b.slots c.args.dir c.args.name.now c.args.fid in
    drafted_pushed b c.detach-held.new.self us c.push_reserved.new.self.items undo _ (ap (λ (x : Slotted). x.number) c.detach-held.ensures.slots) items back nodes
    ∙ ap (λ (d : Drafted). with_nodes d (detached d.nodes c.args.dir c.args.name.now c.args.fid)) c.self.view_is
