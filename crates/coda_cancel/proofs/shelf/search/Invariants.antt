use Rattle.std.proofs.Common.{◌≡◌, ◌-◌, ◌<◌, ◌≤◌, ◌∷◌, ◌++◌, List, length}
use Rattle.coda_cancel.specs.declared.shelf.Slot.{Slot}
use Rattle.coda_cancel.specs.Slots.{number_of}
use Rattle.coda_cancel.proofs.shelf.search.Given as goal

abbrev pub invariant-loop-low : goal.invariant-loop-low
invariant-loop-low l = record {
  ordered : l.low < l.high;
  in_range : l.high ≤ length l.slots;
  here : (front : List Slot) (slot : Slot) (back : List Slot) → l.slots ≡ front ++ slot ∷ back → number_of slot ≡ l.number → (l.low ≤ length front) × (length front < l.high);
}

abbrev pub decreases-loop-low : goal.decreases-loop-low
decreases-loop-low l = l.high - l.low
