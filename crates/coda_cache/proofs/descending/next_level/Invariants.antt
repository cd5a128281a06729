use Rattle.std.proofs.Common.{◌≡◌, take}
use Rattle.coda_fid.specs.declared.fid.Fid.{Fid}
use Rattle.coda_walk.specs.Going.{is_listed}
use Rattle.coda_cache.specs.Indexed.{is_under_any}
use Rattle.coda_cache.proofs.descending.next_level.Given as goal

abbrev pub invariant-loop-dir : goal.invariant-loop-dir
invariant-loop-dir l = (f : Fid) → is_listed l.next.items f ≡ is_under_any l.contents (take l.dir-index l.level) f
