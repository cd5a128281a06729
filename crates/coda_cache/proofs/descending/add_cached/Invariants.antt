use Rattle.std.proofs.Common.{◌≡◌, ◌++◌, take}
use Rattle.std.specs.List.{filter}
use Rattle.coda_cache.specs.State.{is_cached}
use Rattle.coda_cache.proofs.descending.add_cached.Given as goal

abbrev pub invariant-loop-fid : goal.invariant-loop-fid
invariant-loop-fid l = l.below.items ≡ l.fn.below.items ++ filter (is_cached l.contents) (take l.fid-index l.level)
