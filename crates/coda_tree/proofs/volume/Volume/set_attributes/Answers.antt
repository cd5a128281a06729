use Rattle.std.proofs.Common.{sym, ap, ◌∙◌, subst}
use Rattle.coda_tree.specs.Volume.{Tree, Nodes, changed, written, attrs_patch}
use Rattle.coda_tree.specs.Slots.{Slotted, IsWhole}
use Rattle.coda_tree.specs.Volumes.{seen}
use Rattle.coda_tree.proofs.SlotMap.{nodes_changed}
use Rattle.coda_tree.proofs.KeptSlots.{whole_changed}
use Rattle.coda_tree.proofs.volume.Volume.set_attributes.Goals as goal

pub invariant_of-self : goal.invariant_of-self
invariant_of-self c = subst (λ (b : Slotted). IsWhole b.slots) (sym c.set_attributes.ensures) (whole_changed c.self.inside.body.slots c.self.invariant c.args.fid (written (attrs_patch c.args.attrs.now) c.args.sid))

pub returns : goal.returns
returns c =
    let whole : Nodes → Tree = λ m. record { number = c.self.inside.body.number; nodes = m } in
    ap seen c.set_attributes.ensures ∙ ap whole (nodes_changed c.self.inside.body.slots c.args.fid (written (attrs_patch c.args.attrs.now) c.args.sid)) ∙ ap (λ (t : Tree). let r : Tree = record { number = t.number; nodes = changed t.nodes c.args.fid (written (attrs_patch c.args.attrs.now) c.args.sid) } in r) c.self.view_is
