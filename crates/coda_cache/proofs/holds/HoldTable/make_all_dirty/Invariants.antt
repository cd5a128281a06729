use Rattle.std.proofs.Common.{◌≡◌, take}
use Rattle.coda_cache.specs.Steps.{all_dirty}
use Rattle.coda_cache.proofs.holds.HoldTable.make_all_dirty.Given as goal

abbrev pub invariant-loop-fid : goal.invariant-loop-fid
invariant-loop-fid l = l.self ≡ all_dirty l.fn.self (take l.fid-index l.fids)
