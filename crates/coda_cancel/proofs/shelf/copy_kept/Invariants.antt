use Rattle.std.proofs.Common.{◌≡◌, ◌++◌, take}
use Rattle.coda_cancel.specs.Slots.{kept_in}
use Rattle.coda_cancel.proofs.shelf.copy_kept.Given as goal

abbrev pub invariant-loop-slot : goal.invariant-loop-slot
invariant-loop-slot l = l.copies.items ≡ l.initial.copies.items ++ kept_in (take l.slot-index l.slots)
