use Rattle.std.proofs.Common.{◌≡◌, ◌++◌, ◌-◌, length, Some}
use Rattle.std.specs.BTreeSet as tree_set
use Rattle.coda_fid.specs.Fid.{fid_cmp}
use Rattle.coda_walk.specs.Climbing.{new_on, unless}
use Rattle.coda_walk.proofs.taking.new_above.Given as goal

abbrev pub invariant-loop-step : goal.invariant-loop-step
invariant-loop-step l = l.way.items ++ new_on l.items (tree_set.contains fid_cmp l.kept) (l._step-end - l._step) l.at ≡ new_on l.items (tree_set.contains fid_cmp l.kept) (length l.items) (unless (tree_set.contains fid_cmp l.kept) (Some l.fn.fid))
