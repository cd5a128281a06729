use Rattle.std.proofs.Common.{List}
use Rattle.coda_fid.specs.declared.fid.Fid.{Fid}
use Rattle.coda_walk.specs.declared.item.Item.{Item}
use Rattle.coda_walk.specs.Queue.{IsQueueOf}
use Rattle.coda_walk.specs.Leaving.{pool_of, AreKept, AreInTurn}
use Rattle.coda_walk.proofs.queue.Queue.who_goes.Given as goal

abbrev pub invariant-loop-step : goal.invariant-loop-step
invariant-loop-step l = (fids : List Fid) (items : List Item) → IsQueueOf l.fn.self items → AreKept l.fn.kept fids → AreInTurn l.fn.self l.leaving (pool_of l.fn.self l.leaving) l.fn.size fids items
