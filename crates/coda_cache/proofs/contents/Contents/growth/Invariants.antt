use Rattle.std.proofs.Common.{◌≡◌, ◌+◌, ℕ}
use Rattle.std.specs.List.Sorted.{IsStrictlySortedBy}
use Rattle.coda_fid.specs.Fid.{fid_cmp}
use Rattle.coda_cache.specs.State.{CacheState}
use Rattle.coda_cache.specs.Prospects.{Foresees}
use Rattle.coda_cache.specs.Growing.{growth_on}
use Rattle.coda_cache.proofs.contents.Contents.growth.Given as goal

abbrev pub invariant-loop-fid : goal.invariant-loop-fid
invariant-loop-fid l = ((client : ℕ) (n : CacheState) → Foresees l.self client l.rec n l.prospect → l.blocks + growth_on l.self n l.fid-iterator ≡ growth_on l.self n l.prospect.touched.keys) × IsStrictlySortedBy fid_cmp l.prospect.touched.keys
