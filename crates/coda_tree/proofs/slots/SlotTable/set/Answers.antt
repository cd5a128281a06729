use Rattle.std.proofs.Common.{sym, ap, ◌∙◌}
use Rattle.std.specs.FinMap as map
use Rattle.coda_tree.specs.Slots.{Slots, keyed, nodes_in, altered, slot_changed}
use Rattle.coda_tree.proofs.Keyed.{keyed_altered}
use Rattle.coda_tree.proofs.SlotMap.{count_changed}
use Rattle.coda_tree.proofs.slots.SlotTable.set.Goals as goal

pub invariant_of-self : goal.invariant_of-self
invariant_of-self c =
    let old = c.self.inside.slots.entries in
    let is = keyed_altered old c.set.new.slots.entries c.args.fid (slot_changed (λ _. c.args.node)) c.set.ensures in
    c.self.invariant ∙ sym (ap (λ (s : Slots). map.len (nodes_in s)) is ∙ count_changed (keyed old) c.args.fid (λ _. c.args.node))

pub returns : goal.returns
returns c =
    keyed_altered c.self.inside.slots.entries c.set.new.slots.entries c.args.fid (slot_changed (λ _. c.args.node)) c.set.ensures
    ∙ ap (λ (s : Slots). altered s c.args.fid (slot_changed (λ _. c.args.node))) c.self.view_is
