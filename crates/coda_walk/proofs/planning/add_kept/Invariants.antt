use Rattle.std.proofs.Common.{◌≡◌, ◌++◌, take}
use Rattle.std.specs.List.{filter}
use Rattle.std.specs.BTreeSet as tree_set
use Rattle.coda_fid.specs.Fid.{fid_cmp}
use Rattle.coda_walk.specs.Climbing.{is_new}
use Rattle.coda_walk.proofs.planning.add_kept.Given as goal

abbrev pub invariant-loop-item : goal.invariant-loop-item
invariant-loop-item l = l.stake.items ≡ l.fn.stake.items ++ filter (is_new (tree_set.contains fid_cmp l.kept)) (take l.item-index l.items)
