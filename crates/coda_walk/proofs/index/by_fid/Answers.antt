use Rattle.std.proofs.Common.{◌∙◌, cond, false, Some, None, slice_index_or, take, add-one, sym, ap}
use Rattle.coda_fid.specs.Fid.{same_fid}
use Rattle.coda_walk.specs.declared.item.Item.{Item}
use Rattle.coda_walk.specs.Planning.{item_at}
use Rattle.coda_walk.specs.Climbing.{first_of}
use Rattle.coda_walk.proofs.Loops.{item_more}
use Rattle.coda_walk.proofs.index.by_fid.Goals as goal

abbrev nobody : Item
nobody = record { fid = record { volume = 0; vnode = 0; uniq = 0 }; parent = None; priority = 0; blocks = 0; cached = false; served = false; pinned = false }

pub loop-item-preserved : goal.loop-item-preserved
loop-item-preserved c f =
    c.in_ok-put_first.ensures f
    ∙ ap (λ o. first_of o (cond (same_fid (slice_index_or c.args.items.now c.loop-item.item-index nobody).fid f) (Some (slice_index_or c.args.items.now c.loop-item.item-index nobody)) None)) (c.loop-item.invariant f)
    ∙ sym (ap (λ n. item_at (take n c.args.items.now) f) (add-one c.loop-item.item-index) ∙ item_more c.args.items.now c.loop-item.item-index nobody f c.loop-item-test.true)
