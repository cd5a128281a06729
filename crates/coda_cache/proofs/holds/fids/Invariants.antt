use Rattle.std.proofs.Common.{◌≡◌, ◌++◌}
use Rattle.std.specs.Map.{keys_of}
use Rattle.coda_cache.proofs.holds.fids.Given as goal

abbrev pub invariant-loop-fid : goal.invariant-loop-fid
invariant-loop-fid l = l.fids.items ++ keys_of l.fid-iterator ≡ keys_of l.fn.holds.entries
