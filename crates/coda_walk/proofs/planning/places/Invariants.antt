use Rattle.std.proofs.Common.{◌≡◌, take}
use Rattle.std.specs.Prelude as prelude
use Rattle.std.specs.List.{list_any, filter}
use Rattle.std.specs.Ordering.{eq_by_cmp}
use Rattle.std.specs.BTreeSet as tree_set
use Rattle.coda_fid.specs.Fid.{fid_cmp}
use Rattle.coda_walk.specs.declared.candidate.Place.{Place}
use Rattle.coda_walk.specs.Planning.{place_cmp, place_of}
use Rattle.coda_walk.specs.Climbing.{fetched_by}
use Rattle.coda_walk.proofs.planning.places.Given as goal

abbrev pub invariant-loop-item : goal.invariant-loop-item
invariant-loop-item l = (q : Place) → tree_set.contains place_cmp l.places q ≡ list_any (λ k. eq_by_cmp place_cmp k q) (prelude.map (place_of l.items) (filter (fetched_by (tree_set.contains fid_cmp l.chosen.taken) (tree_set.contains fid_cmp l.chosen.kept)) (take l.item-index l.items)))
