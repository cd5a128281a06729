use Rattle.std.proofs.Common.{◌≡◌, ◌-◌, take}
use Rattle.std.specs.List.{filter}
use Rattle.coda_walk.specs.declared.item.Item.{Item}
use Rattle.coda_walk.specs.Going.{blocks_of}
use Rattle.coda_walk.proofs.taking.room_beside_pinned.Given as goal

abbrev pub invariant-loop-item : goal.invariant-loop-item
invariant-loop-item l = l.room ≡ l.fn.size - blocks_of (filter (λ (i : Item). i.pinned) (take l.item-index l.items))
