use Rattle.std.proofs.Common.{◌≡◌, ℕ, take}
use Rattle.std.specs.Prelude.{map}
use Rattle.std.specs.BTreeSet as btree
use Rattle.coda_fid.specs.declared.fid.Fid.{Fid}
use Rattle.coda_fid.specs.Fid.{fid_cmp}
use Rattle.coda_cache.specs.State.{CacheState}
use Rattle.coda_cache.specs.Ways.{is_pinned}
use Rattle.coda_cache.specs.Room.{item_of}
use Rattle.coda_cache.specs.Prospects.{Foresees}
use Rattle.coda_cache.proofs.contents.Contents.items_ahead.Given as goal

abbrev pub invariant-loop-fid : goal.invariant-loop-fid
invariant-loop-fid l = (client : ℕ) (n : CacheState) → Foresees l.self client l.rec n l.prospect → ((f : Fid) → btree.contains fid_cmp l.pinned f ≡ is_pinned n f) → l.items.items ≡ map (item_of n) (take l.fid-index l.fids)
