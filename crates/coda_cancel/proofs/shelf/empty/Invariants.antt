use Rattle.std.proofs.Common.{◌≡◌, ◌+◌, ◌≤◌, ◌++◌, length}
use Rattle.std.specs.Vec.{vec_len, vec_capacity}
use Rattle.coda_cancel.specs.Slots.{kept_in}
use Rattle.coda_cancel.proofs.shelf.empty.Given as goal

abbrev pub invariant-loop-slot : goal.invariant-loop-slot
invariant-loop-slot l = record {
  records : l.records.items ++ kept_in l.slot-iterator.rest.items ≡ l.fn.records.items ++ kept_in l.fn.slots.items;
  room : vec_len l.records + length (kept_in l.slot-iterator.rest.items) ≤ vec_capacity l.records;
}
