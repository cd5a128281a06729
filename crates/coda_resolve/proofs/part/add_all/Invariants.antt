use Rattle.std.proofs.Common.{◌≡◌, ◌++◌, take}
use Rattle.coda_resolve.proofs.part.add_all.Given as goal

abbrev pub invariant-loop-fid : goal.invariant-loop-fid
invariant-loop-fid l = l.fids.items ≡ l.fn.fids.items ++ take l.fid-index l.more
