use Rattle.std.proofs.Common.{◌≡◌, ◌+◌, ℕ}
use Rattle.coda_cache.specs.Growing.{growth_by_on}
use Rattle.coda_cache.proofs.contents.Contents.growth_by.Given as goal

abbrev pub invariant-loop-fid : goal.invariant-loop-fid
invariant-loop-fid l = (client : ℕ) → l.blocks + growth_by_on l.self client l.rec l.fid-iterator ≡ growth_by_on l.self client l.rec l.touched.keys
