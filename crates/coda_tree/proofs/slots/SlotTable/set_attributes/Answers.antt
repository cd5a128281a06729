use Rattle.std.proofs.Common.{sym, ap, ◌∙◌}
use Rattle.std.specs.FinMap as map
use Rattle.coda_tree.specs.Volume.{written, attrs_patch}
use Rattle.coda_tree.specs.Slots.{Slots, keyed, nodes_in, altered, slot_changed}
use Rattle.coda_tree.proofs.Keyed.{keyed_altered}
use Rattle.coda_tree.proofs.SlotMap.{count_changed}
use Rattle.coda_tree.proofs.slots.SlotTable.set_attributes.Goals as goal

pub invariant_of-self : goal.invariant_of-self
invariant_of-self c =
    let old = c.self.inside.slots.entries in
    let is = keyed_altered old c.set_attributes.new.slots.entries c.args.fid (slot_changed (written (attrs_patch c.args.attrs.now) c.args.sid)) c.set_attributes.ensures in
    c.self.invariant ∙ sym (ap (λ (s : Slots). map.len (nodes_in s)) is ∙ count_changed (keyed old) c.args.fid (written (attrs_patch c.args.attrs.now) c.args.sid))

pub returns : goal.returns
returns c =
    keyed_altered c.self.inside.slots.entries c.set_attributes.new.slots.entries c.args.fid (slot_changed (written (attrs_patch c.args.attrs.now) c.args.sid)) c.set_attributes.ensures
    ∙ ap (λ (s : Slots). altered s c.args.fid (slot_changed (written (attrs_patch c.args.attrs.now) c.args.sid))) c.self.view_is
