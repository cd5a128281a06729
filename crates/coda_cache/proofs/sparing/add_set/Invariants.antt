use Rattle.std.proofs.Common.{◌≡◌, ◌||◌}
use Rattle.std.specs.BTreeSet as btree
use Rattle.coda_fid.specs.declared.fid.Fid.{Fid}
use Rattle.coda_fid.specs.Fid.{fid_cmp}
use Rattle.coda_walk.specs.Going.{is_listed}
use Rattle.coda_cache.proofs.sparing.add_set.Given as goal

abbrev pub invariant-loop-fid : goal.invariant-loop-fid
invariant-loop-fid l = (f : Fid) → (btree.contains fid_cmp l.set f || is_listed l.fid-iterator f) ≡ (btree.contains fid_cmp l.fn.set f || is_listed l.fids.keys f)
