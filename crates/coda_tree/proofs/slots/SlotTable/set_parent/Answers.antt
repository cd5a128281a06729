use Rattle.std.proofs.Common.{sym, ap, ◌∙◌}
use Rattle.std.specs.FinMap as map
use Rattle.coda_tree.specs.Volume.{Nodes}
use Rattle.coda_tree.specs.Slots.{Slots, keyed, nodes_in, altered, slot_moved}
use Rattle.coda_tree.proofs.Keyed.{keyed_altered}
use Rattle.coda_tree.proofs.SlotMap.{nodes_moved}
use Rattle.coda_tree.proofs.slots.SlotTable.set_parent.Goals as goal

pub invariant_of-self : goal.invariant_of-self
invariant_of-self c =
    let old = c.self.inside.slots.entries in
    let is = keyed_altered old c.set_parent.new.slots.entries c.args.fid (slot_moved c.args.dir) c.set_parent.ensures in
    c.self.invariant ∙ sym (ap (λ (s : Slots). map.len (nodes_in s)) is ∙ ap (λ (m : Nodes). map.len m) (nodes_moved (keyed old) c.args.fid c.args.dir))

pub returns : goal.returns
returns c =
    keyed_altered c.self.inside.slots.entries c.set_parent.new.slots.entries c.args.fid (slot_moved c.args.dir) c.set_parent.ensures
    ∙ ap (λ (s : Slots). altered s c.args.fid (slot_moved c.args.dir)) c.self.view_is
