use Rattle.std.proofs.Common.{◌≡◌, vec_len}
use Rattle.coda_tree.specs.Undoing.{purged_all}
use Rattle.coda_tree.proofs.slots.SlotTable.purge_all.Given as goal

abbrev pub invariant-loop-undo : goal.invariant-loop-undo
invariant-loop-undo l = purged_all l.self l.undos.items ≡ purged_all l.fn.self l.fn.undos.items

abbrev pub decreases-loop-undo : goal.decreases-loop-undo
decreases-loop-undo l = vec_len l.undos
