use Rattle.std.proofs.Common.{List, take}
use Rattle.coda_walk.specs.declared.item.Item.{Item}
use Rattle.coda_walk.specs.Laws.{left}
use Rattle.coda_cache.specs.Indexed.{IsQueued}
use Rattle.coda_cache.proofs.queued.Queued.take_all.Given as goal

abbrev pub invariant-loop-fid : goal.invariant-loop-fid
invariant-loop-fid l = (items : List Item) → IsQueued l.fn.self items → IsQueued l.self (left (take l.fid-index l.fids) items)
