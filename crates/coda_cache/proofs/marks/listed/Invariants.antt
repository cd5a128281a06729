use Rattle.std.proofs.Common.{◌≡◌, ◌++◌}
use Rattle.coda_cache.proofs.marks.listed.Given as goal

abbrev pub invariant-loop-fid : goal.invariant-loop-fid
invariant-loop-fid l = l.list.items ++ l.fid-iterator ≡ l.fids.keys
