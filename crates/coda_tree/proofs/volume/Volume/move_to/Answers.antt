use Rattle.std.proofs.Common.{◌≡◌, sym, ap, ◌∙◌, subst}
use Rattle.std.proofs.lemmas.Option.{same_Some}
use Rattle.coda_fid.specs.declared.fid.Fid.{Fid}
use Rattle.coda_tree.specs.Volume.{Tree, Nodes, child, moved, MayMove}
use Rattle.coda_tree.specs.Slots.{Slotted, nodes_in, IsWhole}
use Rattle.coda_tree.specs.Volumes.{seen}
use Rattle.coda_tree.proofs.KeptSlots.{whole_moved, nodes_moved_over, places_free}
use Rattle.coda_tree.proofs.volume.Volume.move_to.Goals as goal

pub invariant_of-self : goal.invariant_of-self
invariant_of-self c = subst (λ (b : Slotted). IsWhole b.slots) (sym c.in_ok-move_to.ensures.ok) (whole_moved c.self.inside.body.slots c.self.invariant c.args.from c.args.name.now c.args.to c.args.new c.in-Some.fid)

pub returns-in_ok-move_to-clause-ok : goal.returns-in_ok-move_to-clause-ok
returns-in_ok-move_to-clause-ok c f is =
    let s = c.self.inside.body.slots in
    let same : c.in-Some.fid ≡ f = same_Some c.in-Some.fid f (c.in-Some.ensures ∙ is) in
    let whole : Nodes → Tree = λ m. record { number = c.self.inside.body.number; nodes = m } in
    let was = ap (λ (t : Tree). child t.nodes c.args.from c.args.name.now) c.self.view_is ∙ sym c.in-Some.ensures in
    let may = subst (λ (t : Tree). MayMove t.nodes c.args.from c.args.name.now c.args.to c.args.new) (sym c.self.view_is) c.requires in
    ap seen c.in_ok-move_to.ensures.ok
    ∙ ap whole (nodes_moved_over s c.args.from c.args.name.now c.args.to c.args.new c.in-Some.fid (places_free (nodes_in s) c.args.from c.args.name.now c.args.to c.args.new c.in-Some.fid was may.free))
    ∙ ap (λ (t : Tree). let r : Tree = record { number = t.number; nodes = moved t.nodes c.args.from c.args.name.now c.args.to c.args.new c.in-Some.fid } in r) c.self.view_is
    ∙ ap (λ (g : Fid). let r : Tree = record { number = c.args.self.now.number; nodes = moved c.args.self.now.nodes c.args.from c.args.name.now c.args.to c.args.new g } in r) same
