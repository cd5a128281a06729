use Rattle.std.proofs.Common.{◌++◌, ◌∷◌, [], List, sym, ap, ◌∙◌, add-one, arith, take}
use Rattle.std.specs.Prelude.{map, slice_index_or}
use Rattle.coda_fid.specs.declared.fid.Fid.{Fid}
use Rattle.coda_walk.specs.declared.item.Item.{Item}
use Rattle.coda_cache.specs.Room.{item_of}
use Rattle.coda_cache.proofs.Foreseen.{map_next}
use Rattle.coda_cache.proofs.Uses.{take_enough}
use Rattle.coda_cache.proofs.contents.Contents.items_ahead.Goals as goal

abbrev nobody : Fid
nobody = record { volume = 0; vnode = 0; uniq = 0 }

pub loop-fid-preserved : goal.loop-fid-preserved
loop-fid-preserved c = λ client n is are.
    let fid = slice_index_or c.args.fids.now c.loop-fid.fid-index nobody in
    c.in_ok-push_item.ensures client n is are ∙ ap (λ (l : List Item). l ++ item_of n fid ∷ []) (c.loop-fid.invariant client n is are)
    ∙ sym (ap (λ k. map (item_of n) (take k c.args.fids.now)) (add-one c.loop-fid.fid-index) ∙ map_next (item_of n) c.args.fids.now c.loop-fid.fid-index nobody c.loop-fid-test.true)

pub returns : goal.returns
returns c = λ client n is are.
    let over = c.loop-fid-test.false in
    c.loop-fid.invariant client n is are ∙ ap (map (item_of n)) (take_enough c.args.fids.now c.loop-fid.fid-index (omega (arith, over)))
