use Rattle.std.proofs.Common.{◌≡◌, ◌++◌}
use Rattle.coda_repair.proofs.reach.listed.Given as goal

abbrev pub invariant-loop-fid : goal.invariant-loop-fid
invariant-loop-fid l = l.fids.items ++ l.fid-iterator ≡ l.set.keys
