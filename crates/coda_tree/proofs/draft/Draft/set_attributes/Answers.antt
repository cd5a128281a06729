use Rattle.std.proofs.Common.{◌≡◌, ◌∷◌, [], ◌++◌, List, Option, option_map, Some, None, sym, ap, ◌∙◌, subst}
use Rattle.std.proofs.lemmas.Option.{same_Some}
use Rattle.std.specs.FinMap as map
use Rattle.coda_tree.specs.declared.undo.Undo.{Undo}
use Rattle.coda_tree.specs.declared.undo.Undo.TheVariants.{Written}
use Rattle.coda_tree.specs.declared.node.Node.{Node}
use Rattle.coda_tree.specs.Volume.{changed, written, attrs_patch}
use Rattle.coda_tree.specs.Parts.{parts_before}
use Rattle.coda_tree.specs.Slots.{Slotted, nodes_in}
use Rattle.coda_tree.specs.Undoing.{Undoes}
use Rattle.coda_tree.specs.Drafted.{Drafted, with_nodes}
use Rattle.coda_tree.proofs.SlotMap.{nodes_changed}
use Rattle.coda_tree.proofs.Undone.{written_undoes}
use Rattle.coda_tree.proofs.UndoneAll.{can_pushed, drafted_pushed}
use Rattle.coda_tree.proofs.draft.Draft.set_attributes.Goals as goal

pub invariant_of-self-in-Some : goal.invariant_of-self-in-Some
invariant_of-self-in-Some c =
    let b = c.self.inside.body in
    let us = c.self.inside.undos.items in
    let undo : Undo = Written c.args.fid c.in-Some.parts in
    let items = c.push_reserved.ensures.items ∙ ap (λ (l : List Undo). l ++ undo ∷ []) c.reserve.ensures.items in
    let were : (node : Node) → map.get (nodes_in b.slots) c.args.fid ≡ Some node → c.in-Some.parts ≡ parts_before None node =
    λ node is. same_Some _ _ (c.in-Some.ensures ∙ ap (λ (o : Option Node). option_map (parts_before None) o) is) in
    let back = subst (λ (x : Slotted). Undoes b.slots x.slots undo) (sym c.set_attributes.ensures) (written_undoes b.slots c.args.fid (attrs_patch c.args.attrs.now) c.args.sid c.in-Some.parts were) in
    can_pushed b.number c.set_attributes.new.self.number b.slots c.set_attributes.new.self.slots us c.push_reserved.new.self.items undo (ap (λ (x : Slotted). x.number) c.set_attributes.ensures) items c.self.invariant back

pub returns-in-Some-clause-ok : goal.returns-in-Some-clause-ok
returns-in-Some-clause-ok c =
    let b = c.self.inside.body in
    let us = c.self.inside.undos.items in
    let undo : Undo = Written c.args.fid c.in-Some.parts in
    let items = c.push_reserved.ensures.items ∙ ap (λ (l : List Undo). l ++ undo ∷ []) c.reserve.ensures.items in
    let were : (node : Node) → map.get (nodes_in b.slots) c.args.fid ≡ Some node → c.in-Some.parts ≡ parts_before None node =
    λ node is. same_Some _ _ (c.in-Some.ensures ∙ ap (λ (o : Option Node). option_map (parts_before None) o) is) in
    let back = subst (λ (x : Slotted). Undoes b.slots x.slots undo) (sym c.set_attributes.ensures) (written_undoes b.slots c.args.fid (attrs_patch c.args.attrs.now) c.args.sid c.in-Some.parts were) in
    let nodes = ap (λ (x : Slotted). nodes_in x.slots) c.set_attributes.ensures ∙ nodes_changed b.slots c.args.fid (written (attrs_patch c.args.attrs.now) c.args.sid) in
    drafted_pushed b c.set_attributes.new.self us c.push_reserved.new.self.items undo _ (ap (λ (x : Slotted). x.number) c.set_attributes.ensures) items back nodes
    ∙ ap (λ (d : Drafted). with_nodes d (changed d.nodes c.args.fid (written (attrs_patch c.args.attrs.now) c.args.sid))) c.self.view_is
