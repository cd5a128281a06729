use Rattle.std.proofs.Common.{◌≡◌, take}
use Rattle.std.specs.BTreeSet as btree
use Rattle.coda_fid.specs.declared.fid.Fid.{Fid}
use Rattle.coda_fid.specs.Fid.{fid_cmp}
use Rattle.coda_walk.specs.Going.{is_listed}
use Rattle.coda_cache.proofs.holds.set_of.Given as goal

abbrev pub invariant-loop-fid : goal.invariant-loop-fid
invariant-loop-fid l = (f : Fid) → btree.contains fid_cmp l.set f ≡ is_listed (take l.fid-index l.fids) f
