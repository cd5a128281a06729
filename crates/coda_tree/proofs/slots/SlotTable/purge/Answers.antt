use Rattle.std.proofs.Common.{sym, ap, ◌∙◌}
use Rattle.std.specs.FinMap as map
use Rattle.coda_tree.specs.Slots.{Slots}
use Rattle.coda_tree.proofs.Keyed.{get_keyed}
use Rattle.coda_tree.proofs.KeptSlots.{purged_empty, purged_else}
use Rattle.coda_tree.proofs.slots.SlotTable.purge.Goals as goal

pub returns-then-is_empty : goal.returns-then-is_empty
returns-then-is_empty c =
    let at = ap (λ (s : Slots). map.get s c.args.fid) (sym c.self.view_is) ∙ get_keyed c.self.inside.slots.entries c.args.fid in
    c.take_out.ensures ∙ purged_empty c.args.self.now c.args.fid (at ∙ c.is_empty.ensures.0 c.if-is_empty.true)

pub returns-else-is_empty : goal.returns-else-is_empty
returns-else-is_empty c =
    let at = ap (λ (s : Slots). map.get s c.args.fid) (sym c.self.view_is) ∙ get_keyed c.self.inside.slots.entries c.args.fid in
    purged_else c.args.self.now c.args.fid (λ empty. let is = c.is_empty.ensures.1 (sym at ∙ empty) in let not_is = c.if-is_empty.false in cc)
