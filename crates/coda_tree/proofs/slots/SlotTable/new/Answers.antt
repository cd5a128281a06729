use Rattle.std.proofs.Common.{List, sym, ap, ◌∙◌}
use Rattle.std.specs.FinMap as map
use Rattle.coda_fid.specs.Fid.{fid_cmp}
use Rattle.coda_fid.specs.declared.fid.Fid.{Fid}
use Rattle.coda_tree.specs.declared.node.Node.{Node}
use Rattle.std.proofs.Common.{Option}
use Rattle.coda_tree.specs.declared.slot.Held.{Held}
use Rattle.coda_tree.specs.Volume.{Nodes}
use Rattle.coda_tree.specs.Slots.{keyed, nodes_in}
use Rattle.coda_tree.proofs.SlotMap.{no_nodes}
use Rattle.coda_tree.proofs.slots.SlotTable.new.Goals as goal

pub invariant_of-result : goal.invariant_of-result
invariant_of-result c = sym (ap (λ (es : List (Fid × Option Held)). map.len (nodes_in (keyed es))) c.with_hasher.ensures.empty ∙ ap (λ (m : Nodes). map.len m) no_nodes ∙ map.len-empty fid_cmp Node)
