use Rattle.std.proofs.Common.{◌≡◌, ◌&&◌, take}
use Rattle.std.specs.List.{list_any}
use Rattle.std.specs.BTreeSet as btree
use Rattle.coda_fid.specs.declared.fid.Fid.{Fid}
use Rattle.coda_fid.specs.Fid.{fid_cmp}
use Rattle.coda_cache.specs.State.{is_dirty}
use Rattle.coda_cache.specs.Ways.{is_below}
use Rattle.coda_cache.proofs.contents.Contents.pinned_by.Given as goal

abbrev pub invariant-loop-fid : goal.invariant-loop-fid
invariant-loop-fid l = (f : Fid) → btree.contains fid_cmp l.pinned f ≡ list_any (λ d. is_dirty l.self d && is_below l.self d f) (take l.fid-index l.fids)
