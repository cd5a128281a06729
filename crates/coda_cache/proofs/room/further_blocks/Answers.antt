use Rattle.std.proofs.Common.{◌+◌, false, None, cond, arith, take, ap, ◌∙◌, add-one}
use Rattle.std.specs.Prelude.{slice_index_or}
use Rattle.coda_walk.specs.declared.item.Item.{Item}
use Rattle.coda_cache.specs.Room.{is_further, further_blocks}
use Rattle.coda_cache.proofs.Sums.{more_where}
use Rattle.coda_cache.proofs.room.further_blocks.Goals as goal

abbrev nobody : Item
nobody = record { fid = record { volume = 0; vnode = 0; uniq = 0 }; parent = None; priority = 0; blocks = 0; cached = false; served = false; pinned = false }

pub loop-item-preserved : goal.loop-item-preserved
loop-item-preserved c =
    let items = c.args.items.now in
    let item = slice_index_or items c.loop-item.item-index nobody in
    let plus = c.in_ok-blocks.ensures ∙ ap (λ b. c.loop-item.blocks + cond b item.blocks 0) c.is_further.ensures in
    let so_far = c.loop-item.invariant in
    let more = ap (λ n. further_blocks c.args.kept.now (take n items)) (add-one c.loop-item.item-index) ∙ more_where (is_further c.args.kept.now) items c.loop-item.item-index nobody c.loop-item-test.true in
    omega (arith, plus, so_far, more)
