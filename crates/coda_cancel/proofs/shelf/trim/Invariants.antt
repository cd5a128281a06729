use Rattle.std.proofs.Common.{◌≡◌, ◌≤◌}
use Rattle.std.specs.Vec.{vec_len, vec_capacity}
use Rattle.coda_cancel.specs.Slots.{kept_in, DoSlotsRise}
use Rattle.coda_cancel.proofs.shelf.trim.Given as goal

abbrev pub invariant-loop-slots : goal.invariant-loop-slots
invariant-loop-slots l = record {
  records : kept_in l.slots.items ≡ kept_in l.fn.slots.items;
  rising : DoSlotsRise l.fn.slots.items → DoSlotsRise l.slots.items;
  len : vec_len l.slots ≤ vec_len l.fn.slots;
  capacity : vec_capacity l.slots ≡ vec_capacity l.fn.slots;
}

abbrev pub decreases-loop-slots : goal.decreases-loop-slots
decreases-loop-slots l = vec_len l.slots
