use Rattle.std.proofs.Common.{◌≡◌, ◌||◌, take}
use Rattle.std.specs.BTreeSet as set
use Rattle.coda_fid.specs.declared.fid.Fid.{Fid}
use Rattle.coda_fid.specs.Fid.{fid_cmp}
use Rattle.coda_walk.specs.Going.{is_listed}
use Rattle.coda_walk.proofs.room.add.Given as goal

abbrev pub invariant-loop-fid : goal.invariant-loop-fid
invariant-loop-fid l = (f : Fid) → set.contains fid_cmp l.into f ≡ (set.contains fid_cmp l.fn.into f || is_listed (take l.fid-index l.fids) f)
