use Rattle.std.proofs.Common.{◌≡◌, ◌++◌, take}
use Rattle.std.specs.Vec.{vec_capacity}
use Rattle.coda_cancel.specs.Slots.{kept_in}
use Rattle.coda_cancel.proofs.Vacated.{vacated}
use Rattle.coda_cancel.proofs.shelf.vacate.Given as goal

abbrev pub invariant-loop-at : goal.invariant-loop-at
invariant-loop-at l = record {
  slots : l.slots.items ≡ vacated l.at l.fn.slots.items;
  records : l.records.items ≡ l.fn.records.items ++ kept_in (take l.at l.fn.slots.items);
  slots_capacity : vec_capacity l.slots ≡ vec_capacity l.fn.slots;
  records_capacity : vec_capacity l.records ≡ vec_capacity l.fn.records;
}
