use Rattle.std.proofs.Common.{◌≡◌, suc, take, slice_index_or, ap, add-one, arith}
use Rattle.coda_fid.specs.declared.fid.Fid.{Fid}
use Rattle.coda_walk.specs.Climbing.{blocks_on, blocks_at}
use Rattle.coda_walk.proofs.Loops.{blocks_on_more, blocks_on_first}
use Rattle.coda_walk.proofs.taking.room_beside.Goals as goal

abbrev nowhere : Fid
nowhere = record { volume = 0; vnode = 0; uniq = 0 }

pub returns-then-blocks-left-clause-none : goal.returns-then-blocks-left-clause-none
returns-then-blocks-left-clause-none c =
    let items = c.args.items.now in
    let fids = c.args.fids.now in
    let i = c.loop-fid.fid-index in
    let more = blocks_on_more items fids i nowhere c.loop-fid-test.true in
    let less = blocks_on_first items fids (suc i) in
    let kept = c.loop-fid.invariant in
    let over = c.if-blocks-left.true in
    let is : c.blocks-blocks.result ≡ blocks_at items (slice_index_or fids i nowhere) = c.blocks-blocks.ensures in
    omega (arith, more, less, kept, over, is)

pub loop-fid-preserved : goal.loop-fid-preserved
loop-fid-preserved c =
    let items = c.args.items.now in
    let fids = c.args.fids.now in
    let i = c.loop-fid.fid-index in
    let next = ap (λ n. blocks_on items (take n fids)) (add-one i) in
    let more = blocks_on_more items fids i nowhere c.loop-fid-test.true in
    let kept = c.loop-fid.invariant in
    let under = c.if-blocks-left.false in
    let is : c.blocks-blocks.result ≡ blocks_at items (slice_index_or fids i nowhere) = c.blocks-blocks.ensures in
    omega (arith, next, more, kept, under, is)
