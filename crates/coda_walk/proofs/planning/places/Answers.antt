use Rattle.std.proofs.Common.{◌∙◌, ◌||◌, true, false, None, slice_index_or, take, add-one, sym, ap}
use Rattle.std.specs.Prelude as prelude
use Rattle.std.specs.List.{list_any, filter}
use Rattle.std.specs.BTreeSet as tree_set
use Rattle.std.specs.Ordering.{eq_by_cmp}
use Rattle.coda_fid.specs.Fid.{fid_cmp}
use Rattle.coda_walk.specs.declared.item.Item.{Item}
use Rattle.coda_walk.specs.Planning.{place_of, place_cmp}
use Rattle.coda_walk.specs.Climbing.{fetched_by}
use Rattle.coda_walk.proofs.Loops.{placed_more}
use Rattle.coda_walk.proofs.planning.places.Goals.{then-is_fetched+in_ok-add_one, else-is_fetched}
use Rattle.coda_walk.proofs.planning.places.Goals as goal

abbrev nobody : Item
nobody = record { fid = record { volume = 0; vnode = 0; uniq = 0 }; parent = None; priority = 0; blocks = 0; cached = false; served = false; pinned = false }

pub loop-item-preserved : goal.loop-item-preserved
loop-item-preserved c q =
    let items = c.args.items.now in
    let i = c.loop-item.item-index in
    let test = fetched_by (tree_set.contains fid_cmp c.args.chosen.now.taken) (tree_set.contains fid_cmp c.args.chosen.now.kept) in
    let next = ap (λ n. list_any (λ k. eq_by_cmp place_cmp k q) (prelude.map (place_of items) (filter test (take n items)))) (add-one i) in
    elim c.if-is_fetched.branch [
      | then-is_fetched+in_ok-add_one w ↦
          ap (λ s. tree_set.contains place_cmp s q) w.places-is ∙ w.in_ok-add_one.ensures q
          ∙ ap (λ p. eq_by_cmp place_cmp p q || tree_set.contains place_cmp c.loop-item.places q) w.place.ensures
          ∙ ap (λ b. eq_by_cmp place_cmp (place_of items (slice_index_or items i nobody)) q || b) (c.loop-item.invariant q)
          ∙ sym (next ∙ placed_more (λ k. eq_by_cmp place_cmp k q) (place_of items) test items i nobody true c.loop-item-test.true (sym c.is_fetched.ensures ∙ w.if-is_fetched.true))
      | else-is_fetched w ↦
          ap (λ s. tree_set.contains place_cmp s q) w.places-is ∙ c.loop-item.invariant q
          ∙ sym (next ∙ placed_more (λ k. eq_by_cmp place_cmp k q) (place_of items) test items i nobody false c.loop-item-test.true (sym c.is_fetched.ensures ∙ w.if-is_fetched.false))
    ]
