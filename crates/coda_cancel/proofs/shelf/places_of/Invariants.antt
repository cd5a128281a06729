use Rattle.std.proofs.Common.{◌≡◌, ◌+◌, take, length}
use Rattle.coda_cancel.specs.Slots.{kept_in}
use Rattle.coda_cancel.proofs.shelf.places_of.Given as goal

abbrev pub invariant-loop-slot : goal.invariant-loop-slot
invariant-loop-slot l = record {
  places : l.places ≡ l.slot-index;
  passed : length (kept_in (take l.slot-index l.slots)) + l.left ≡ l.count;
}
