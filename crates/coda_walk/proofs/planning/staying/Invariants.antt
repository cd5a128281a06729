use Rattle.std.proofs.Common.{◌≡◌, take}
use Rattle.std.specs.List.{filter}
use Rattle.std.specs.BTreeSet as tree_set
use Rattle.coda_fid.specs.Fid.{fid_cmp}
use Rattle.coda_walk.specs.Planning.{fids_of}
use Rattle.coda_walk.specs.Climbing.{stays_by}
use Rattle.coda_walk.proofs.planning.staying.Given as goal

abbrev pub invariant-loop-item : goal.invariant-loop-item
invariant-loop-item l = l.fids.items ≡ fids_of (filter (stays_by (tree_set.contains fid_cmp l.chosen.taken) (tree_set.contains fid_cmp l.chosen.kept) (tree_set.contains fid_cmp l.gone)) (take l.item-index l.items))
