use Rattle.std.proofs.Common.{◌≡◌, ◌∷◌, [], ◌++◌, List, Option, option_map, Some, None, refl, sym, ap, ◌∙◌, subst}
use Rattle.std.proofs.lemmas.Option.{same_Some}
use Rattle.std.specs.FinMap as map
use Rattle.coda_tree.specs.declared.undo.Undo.{Undo}
use Rattle.coda_tree.specs.declared.undo.Undo.TheVariants.{Written}
use Rattle.coda_tree.specs.declared.node.Node.{Node}
use Rattle.coda_tree.specs.declared.node.Parts.{Parts}
use Rattle.coda_tree.specs.Volume.{Nodes, changed, written, content_patch}
use Rattle.coda_tree.specs.Parts.{parts_before}
use Rattle.coda_tree.specs.Slots.{Slots, Slotted, nodes_in}
use Rattle.coda_tree.specs.Undoing.{Undoes}
use Rattle.coda_tree.specs.Drafted.{Drafted, with_nodes}
use Rattle.coda_tree.specs.Drafts.{CanUndo, drafted}
use Rattle.coda_tree.proofs.SlotMap.{nodes_changed}
use Rattle.coda_tree.proofs.Undone.{written_undoes, idle_change}
use Rattle.coda_tree.proofs.UndoneAll.{can_pushed, drafted_pushed}
use Rattle.coda_tree.proofs.draft.Draft.store.Goals as goal

pub invariant_of-self-in-Some : goal.invariant_of-self-in-Some
invariant_of-self-in-Some c =
    let b = c.self.inside.body in
    let us = c.self.inside.undos.items in
    let undo : Undo = Written c.args.fid c.in-Some.parts in
    let items = c.push_reserved.ensures.items ∙ ap (λ (l : List Undo). l ++ undo ∷ []) c.reserve.ensures.items in
    let were : (node : Node) → map.get (nodes_in b.slots) c.args.fid ≡ Some node → c.in-Some.parts ≡ parts_before (Some c.args.content) node =
    λ node is. same_Some _ _ (c.in-Some.ensures.before ∙ ap (λ (o : Option Node). option_map (parts_before (Some c.args.content)) o) is) in
    let back = subst (λ (x : Slotted). Undoes b.slots x.slots undo) (sym c.exchange.ensures.content) (written_undoes b.slots c.args.fid (content_patch c.args.content c.args.mtime) c.args.sid c.in-Some.parts were) in
    can_pushed b.number c.exchange.new.self.number b.slots c.exchange.new.self.slots us c.push_reserved.new.self.items undo (ap (λ (x : Slotted). x.number) c.exchange.ensures.content) items c.self.invariant back

pub returns-in-Some-clause-ok : goal.returns-in-Some-clause-ok
returns-in-Some-clause-ok c =
    let b = c.self.inside.body in
    let us = c.self.inside.undos.items in
    let undo : Undo = Written c.args.fid c.in-Some.parts in
    let items = c.push_reserved.ensures.items ∙ ap (λ (l : List Undo). l ++ undo ∷ []) c.reserve.ensures.items in
    let were : (node : Node) → map.get (nodes_in b.slots) c.args.fid ≡ Some node → c.in-Some.parts ≡ parts_before (Some c.args.content) node =
    λ node is. same_Some _ _ (c.in-Some.ensures.before ∙ ap (λ (o : Option Node). option_map (parts_before (Some c.args.content)) o) is) in
    let back = subst (λ (x : Slotted). Undoes b.slots x.slots undo) (sym c.exchange.ensures.content) (written_undoes b.slots c.args.fid (content_patch c.args.content c.args.mtime) c.args.sid c.in-Some.parts were) in
    let nodes = ap (λ (x : Slotted). nodes_in x.slots) c.exchange.ensures.content ∙ nodes_changed b.slots c.args.fid (written (content_patch c.args.content c.args.mtime) c.args.sid) in
    drafted_pushed b c.exchange.new.self us c.push_reserved.new.self.items undo _ (ap (λ (x : Slotted). x.number) c.exchange.ensures.content) items back nodes
    ∙ ap (λ (d : Drafted). with_nodes d (changed d.nodes c.args.fid (written (content_patch c.args.content c.args.mtime) c.args.sid))) c.self.view_is

no_parts : (f : Node → Parts) (o : Option Node) → None ≡ option_map f o → o ≡ None
no_parts f None h = refl
no_parts f (Some node) h = cc

pub invariant_of-self-in-None : goal.invariant_of-self-in-None
invariant_of-self-in-None c =
    let b = c.self.inside.body in
    let change = written (content_patch c.args.content c.args.mtime) c.args.sid in
    let none = no_parts (parts_before (Some c.args.content)) (map.get (nodes_in b.slots) c.args.fid) c.in-None.ensures.before in
    let same = c.exchange.ensures.content ∙ ap (λ (s : Slots). let x : Slotted = record { number = b.number; slots = s } in x) (idle_change b.slots c.args.fid change none) in
    subst (λ (x : Slotted). CanUndo x.number x.slots c.reserve.new.self.items) (sym same) (subst (λ (l : List Undo). CanUndo b.number b.slots l) (sym c.reserve.ensures.items) c.self.invariant)

pub returns-in-None-clause-ok : goal.returns-in-None-clause-ok
returns-in-None-clause-ok c =
    let b = c.self.inside.body in
    let change = written (content_patch c.args.content c.args.mtime) c.args.sid in
    let none = no_parts (parts_before (Some c.args.content)) (map.get (nodes_in b.slots) c.args.fid) c.in-None.ensures.before in
    let idle = idle_change b.slots c.args.fid change none in
    let same = c.exchange.ensures.content ∙ ap (λ (s : Slots). let x : Slotted = record { number = b.number; slots = s } in x) idle in
    let nodes = ap (λ (s : Slots). nodes_in s) (sym idle) ∙ nodes_changed b.slots c.args.fid change in
    ap (λ (x : Slotted). drafted x c.reserve.new.self.items) same ∙ ap (λ (l : List Undo). drafted b l) c.reserve.ensures.items ∙ ap (λ (m : Nodes). with_nodes (drafted b c.self.inside.undos.items) m) nodes
    ∙ ap (λ (d : Drafted). with_nodes d (changed d.nodes c.args.fid change)) c.self.view_is
