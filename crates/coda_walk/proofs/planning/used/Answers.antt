use Rattle.std.proofs.Common.{◌∙◌, ◌++◌, [], slice_index_or, take, add-one, sym, ap}
use Rattle.std.specs.List.{cons_option, filter_map}
use Rattle.coda_fid.specs.declared.fid.Fid.{Fid}
use Rattle.coda_walk.specs.Planning.{item_at}
use Rattle.coda_walk.proofs.Loops.{used_more}
use Rattle.coda_walk.proofs.planning.used.Goals as goal

abbrev nowhere : Fid
nowhere = record { volume = 0; vnode = 0; uniq = 0 }

pub loop-fid-preserved : goal.loop-fid-preserved
loop-fid-preserved c =
    c.in_ok-add_found.ensures
    ∙ ap (λ o. c.loop-fid.used.items ++ cons_option o []) c.item.ensures
    ∙ ap (λ l. l ++ cons_option (item_at c.args.items.now (slice_index_or c.args.recency.now c.loop-fid.fid-index nowhere)) []) c.loop-fid.invariant
    ∙ sym (ap (λ n. filter_map (item_at c.args.items.now) (take n c.args.recency.now)) (add-one c.loop-fid.fid-index) ∙ used_more (item_at c.args.items.now) c.args.recency.now c.loop-fid.fid-index nowhere c.loop-fid-test.true)
