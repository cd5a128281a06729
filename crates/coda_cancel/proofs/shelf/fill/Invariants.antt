use Rattle.std.proofs.Common.{◌≡◌, ◌+◌, ◌≤◌, ◌++◌, map, length}
use Rattle.std.specs.Vec.{vec_len, vec_capacity}
use Rattle.coda_cancel.specs.declared.shelf.Slot.TheVariants.{Kept}
use Rattle.coda_cancel.proofs.shelf.fill.Given as goal

abbrev pub invariant-loop-record : goal.invariant-loop-record
invariant-loop-record l = record {
  slots : l.slots.items ++ map Kept l.record-iterator.rest.items ≡ l.fn.slots.items ++ map Kept l.fn.records.items;
  room : vec_len l.slots + length l.record-iterator.rest.items ≤ vec_capacity l.slots;
  capacity : vec_capacity l.slots ≡ vec_capacity l.fn.slots;
}
