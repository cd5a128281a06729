use Rattle.std.proofs.Common.{List, take}
use Rattle.coda_walk.specs.declared.item.Item.{Item}
use Rattle.coda_cache.specs.Indexed.{IsQueued, standing_of, renewed_items}
use Rattle.coda_cache.proofs.queued.Queued.renew.Given as goal

abbrev pub invariant-loop-fid : goal.invariant-loop-fid
invariant-loop-fid l = (items : List Item) → IsQueued l.fn.self items → IsQueued l.self (renewed_items (standing_of l.contents) (take l.fid-index l.fids) items)
