use Rattle.std.proofs.Common.{take}
use Rattle.coda_walk.specs.Queue.{IsQueueOf}
use Rattle.coda_walk.proofs.room.queue_of.Given as goal

abbrev pub invariant-loop-item : goal.invariant-loop-item
invariant-loop-item l = IsQueueOf l.queue (take l.item-index l.items)
