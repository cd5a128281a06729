use Rattle.std.proofs.Common.{◌≡◌, vec_len}
use Rattle.coda_tree.specs.Undoing.{MayUndoAll, undone_all}
use Rattle.coda_tree.proofs.slots.SlotTable.undo_all.Given as goal

abbrev pub invariant-loop-undo : goal.invariant-loop-undo
invariant-loop-undo l = record {
  may : MayUndoAll l.self l.undos.items;
  rest : undone_all l.self l.undos.items ≡ undone_all l.fn.self l.fn.undos.items;
}

abbrev pub decreases-loop-undo : goal.decreases-loop-undo
decreases-loop-undo l = vec_len l.undos
