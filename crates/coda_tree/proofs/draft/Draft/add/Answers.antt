use Rattle.std.proofs.Common.{◌∷◌, [], ◌++◌, List, sym, ap, ◌∙◌, subst}
use Rattle.std.specs.FinMap as map
use Rattle.coda_tree.specs.declared.undo.Undo.{Undo}
use Rattle.coda_tree.specs.declared.undo.Undo.TheVariants.{Added}
use Rattle.coda_tree.specs.Bindings.{Name}
use Rattle.coda_tree.specs.Volume.{added, IsDirAt}
use Rattle.coda_tree.specs.Slots.{Slotted, nodes_in}
use Rattle.coda_tree.specs.Undoing.{Undoes}
use Rattle.coda_tree.specs.Drafted.{Drafted, with_nodes}
use Rattle.coda_tree.proofs.KeptSlots.{nodes_added}
use Rattle.coda_tree.proofs.UndoneAll.{can_pushed, drafted_pushed}
use Rattle.coda_tree.proofs.draft.Draft.add.Goals as goal

pub invariant_of-self-2 : goal.invariant_of-self-2
invariant_of-self-2 c =
    let b = c.self.inside.body in
    let us = c.self.inside.undos.items in
    let undo : Undo = (Added c.args.dir c.in_ok-kept.kept c.args.fid c.in_ok-fresh.fresh) in
    let items = c.push_reserved.ensures.items ∙ ap (λ (l : List Undo). l ++ undo ∷ []) c.reserve.ensures.items in
    let back = subst (λ (n : Name). Undoes b.slots c.add.new.self.slots (Added c.args.dir n c.args.fid c.in_ok-fresh.fresh)) (c.in_ok-bound.ensures ∙ sym c.in_ok-kept.ensures) c.in_ok-fresh.ensures.back in
    can_pushed b.number c.add.new.self.number b.slots c.add.new.self.slots us c.push_reserved.new.self.items undo (ap (λ (x : Slotted). x.number) c.in_ok-fresh.ensures.ok) items c.self.invariant back

pub returns-clause-ok : goal.returns-clause-ok
returns-clause-ok c =
    let b = c.self.inside.body in
    let us = c.self.inside.undos.items in
    let undo : Undo = (Added c.args.dir c.in_ok-kept.kept c.args.fid c.in_ok-fresh.fresh) in
    let items = c.push_reserved.ensures.items ∙ ap (λ (l : List Undo). l ++ undo ∷ []) c.reserve.ensures.items in
    let back = subst (λ (n : Name). Undoes b.slots c.add.new.self.slots (Added c.args.dir n c.args.fid c.in_ok-fresh.fresh)) (c.in_ok-bound.ensures ∙ sym c.in_ok-kept.ensures) c.in_ok-fresh.ensures.back in
    let dir_there = subst (λ (d : Drafted). IsDirAt d.nodes c.args.dir) (sym c.self.view_is) c.requires.dir_there in
    let free = ap (λ (d : Drafted). map.get d.nodes c.args.fid) c.self.view_is ∙ c.requires.fid_free in
    let nodes = ap (λ (x : Slotted). nodes_in x.slots) c.in_ok-fresh.ensures.ok ∙ nodes_added b.slots c.args.dir c.in_ok-bound.bound c.args.fid c.args.node dir_there free
    ∙ ap (λ (n : Name). added (nodes_in b.slots) c.args.dir n c.args.fid c.args.node) c.in_ok-bound.ensures in
    drafted_pushed b c.add.new.self us c.push_reserved.new.self.items undo _ (ap (λ (x : Slotted). x.number) c.in_ok-fresh.ensures.ok) items back nodes
    ∙ ap (λ (d : Drafted). with_nodes d (added d.nodes c.args.dir c.args.name.now c.args.fid c.args.node)) c.self.view_is
