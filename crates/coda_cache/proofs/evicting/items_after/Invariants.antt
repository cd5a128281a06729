use Rattle.std.proofs.Common.{◌≡◌, take}
use Rattle.std.specs.Prelude.{map}
use Rattle.coda_cache.specs.Room.{item_after}
use Rattle.coda_cache.proofs.evicting.items_after.Given as goal

abbrev pub invariant-loop-item : goal.invariant-loop-item
invariant-loop-item l = l.after.items ≡ map (item_after l.fn.fid l.fn.blocks) (take l.item-index l.items)
