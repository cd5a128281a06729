use Rattle.std.proofs.Common.{◌≡◌, ◌+◌, ℕ}
use Rattle.std.specs.List.Sorted.{IsStrictlySortedBy}
use Rattle.std.specs.BTreeSet as btree
use Rattle.coda_fid.specs.Fid.{fid_cmp}
use Rattle.coda_cache.specs.State.{CacheState}
use Rattle.coda_cache.specs.Indexed.{blocks_beside}
use Rattle.coda_cache.specs.Prospects.{Foresees}
use Rattle.coda_cache.proofs.contents.Contents.blocks_beside_ahead.Given as goal

abbrev pub invariant-loop-fid : goal.invariant-loop-fid
invariant-loop-fid l = ((client : ℕ) (n : CacheState) → Foresees l.self client l.rec n l.prospect → l.blocks + blocks_beside n (btree.contains fid_cmp l.but) l.fid-iterator ≡ blocks_beside n (btree.contains fid_cmp l.but) l.fids.keys) × IsStrictlySortedBy fid_cmp l.fids.keys
