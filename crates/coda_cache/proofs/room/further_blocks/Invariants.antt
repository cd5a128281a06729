use Rattle.std.proofs.Common.{◌≡◌, take}
use Rattle.coda_cache.specs.Room.{further_blocks}
use Rattle.coda_cache.proofs.room.further_blocks.Given as goal

abbrev pub invariant-loop-item : goal.invariant-loop-item
invariant-loop-item l = l.blocks ≡ further_blocks l.kept (take l.item-index l.items)
