use Rattle.std.proofs.Common.{◌≡◌, take}
use Rattle.std.specs.List.{list_any}
use Rattle.std.specs.BTreeSet as btree
use Rattle.coda_fid.specs.declared.fid.Fid.{Fid}
use Rattle.coda_fid.specs.Fid.{fid_cmp}
use Rattle.coda_cache.specs.Prospects.{pins_ahead}
use Rattle.coda_cache.proofs.contents.Contents.pinned_ahead.Given as goal

abbrev pub invariant-loop-fid : goal.invariant-loop-fid
invariant-loop-fid l = (f : Fid) → btree.contains fid_cmp l.pinned f ≡ list_any (pins_ahead l.self l.prospect f) (take l.fid-index l.fids)
