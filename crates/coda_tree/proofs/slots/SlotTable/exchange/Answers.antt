use Rattle.std.proofs.Common.{Option, Some, option_map, sym, ap, ◌∙◌}
use Rattle.std.specs.FinMap as map
use Rattle.coda_tree.specs.declared.slot.Held.{Held}
use Rattle.coda_tree.specs.declared.node.Node.{Node}
use Rattle.coda_tree.specs.Volume.{written, content_patch}
use Rattle.coda_tree.specs.Parts.{parts_before}
use Rattle.coda_tree.specs.Slots.{Slots, keyed, nodes_in, held_in, node_held, altered, slot_changed}
use Rattle.coda_tree.proofs.Keyed.{get_keyed, keyed_altered}
use Rattle.coda_tree.proofs.SlotMap.{get_nodes_in, count_changed}
use Rattle.coda_tree.proofs.slots.SlotTable.exchange.Goals as goal

pub invariant_of-self : goal.invariant_of-self
invariant_of-self c =
    let old = c.self.inside.slots.entries in
    let is = keyed_altered old c.exchange.new.slots.entries c.args.fid (slot_changed (written (content_patch c.args.content c.args.mtime) c.args.sid)) c.exchange.ensures.content in
    c.self.invariant ∙ sym (ap (λ (s : Slots). map.len (nodes_in s)) is ∙ count_changed (keyed old) c.args.fid (written (content_patch c.args.content c.args.mtime) c.args.sid))

pub returns-clause-content : goal.returns-clause-content
returns-clause-content c =
    keyed_altered c.self.inside.slots.entries c.exchange.new.slots.entries c.args.fid (slot_changed (written (content_patch c.args.content c.args.mtime) c.args.sid)) c.exchange.ensures.content
    ∙ ap (λ (s : Slots). altered s c.args.fid (slot_changed (written (content_patch c.args.content c.args.mtime) c.args.sid))) c.self.view_is

pub returns-clause-before : goal.returns-clause-before
returns-clause-before c =
    let at = sym (get_keyed c.self.inside.slots.entries c.args.fid) ∙ ap (λ (s : Slots). map.get s c.args.fid) c.self.view_is in
    c.exchange.ensures.before ∙ ap (λ (o : Option (Option Held)). option_map (parts_before (Some c.args.content)) (node_held (held_in o))) at
    ∙ ap (λ (o : Option Node). option_map (parts_before (Some c.args.content)) o) (sym (get_nodes_in c.args.self.now c.args.fid))
