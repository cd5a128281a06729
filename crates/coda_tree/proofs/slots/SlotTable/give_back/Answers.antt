use Rattle.std.proofs.Common.{sym, ap, ◌∙◌}
use Rattle.std.specs.FinMap as map
use Rattle.coda_tree.specs.Parts.{given_back}
use Rattle.coda_tree.specs.Slots.{Slots, keyed, nodes_in, altered, slot_changed}
use Rattle.coda_tree.proofs.Keyed.{keyed_altered}
use Rattle.coda_tree.proofs.SlotMap.{count_changed}
use Rattle.coda_tree.proofs.slots.SlotTable.give_back.Goals as goal

pub invariant_of-self : goal.invariant_of-self
invariant_of-self c =
    let old = c.self.inside.slots.entries in
    let is = keyed_altered old c.give_back.new.slots.entries c.args.fid (slot_changed (given_back c.args.parts)) c.give_back.ensures in
    c.self.invariant ∙ sym (ap (λ (s : Slots). map.len (nodes_in s)) is ∙ count_changed (keyed old) c.args.fid (given_back c.args.parts))

pub returns : goal.returns
returns c =
    keyed_altered c.self.inside.slots.entries c.give_back.new.slots.entries c.args.fid (slot_changed (given_back c.args.parts)) c.give_back.ensures
    ∙ ap (λ (s : Slots). altered s c.args.fid (slot_changed (given_back c.args.parts))) c.self.view_is
