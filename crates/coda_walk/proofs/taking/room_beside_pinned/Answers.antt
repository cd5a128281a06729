use Rattle.std.proofs.Common.{◌≡◌, ◌-◌, true, false, None, take, slice_index_or, ap, ◌∙◌, add-one, arith}
use Rattle.std.specs.List.{filter}
use Rattle.coda_walk.specs.declared.item.Item.{Item}
use Rattle.coda_walk.specs.Going.{blocks_of}
use Rattle.coda_walk.proofs.Loops.{counted_more, is_pinned}
use Rattle.coda_walk.proofs.taking.room_beside_pinned.Goals.{then-item, else-item}
use Rattle.coda_walk.proofs.taking.room_beside_pinned.Goals as goal

abbrev nobody : Item
nobody = record { fid = record { volume = 0; vnode = 0; uniq = 0 }; parent = None; priority = 0; blocks = 0; cached = false; served = false; pinned = false }

pub loop-item-preserved : goal.loop-item-preserved
loop-item-preserved c =
    let items = c.args.items.now in
    let i = c.loop-item.item-index in
    let kept = c.loop-item.invariant in
    let next = ap (λ n. blocks_of (filter is_pinned (take n items))) (add-one i) in
    elim c.if-item.branch [
      | then-item w ↦
          let more = counted_more is_pinned items i nobody true c.loop-item-test.true w.if-item.true in
          let is : c.if-item.room ≡ c.loop-item.room - (slice_index_or items i nobody).blocks = w.room-is ∙ w.saturating_sub-room.ensures in
          omega (arith, next, more, kept, is)
      | else-item w ↦ let more = counted_more is_pinned items i nobody false c.loop-item-test.true w.if-item.false in let is = w.room-is in omega (arith, next, more, kept, is)
    ]
