use Rattle.std.proofs.Common.{◌≡◌, ◌++◌}
use Rattle.coda_cache.proofs.sparing.list_set.Given as goal

abbrev pub invariant-loop-fid : goal.invariant-loop-fid
invariant-loop-fid l = l.list.items ++ l.fid-iterator ≡ l.fn.list.items ++ l.fids.keys
