use Rattle.std.proofs.Common.{◌≡◌, take}
use Rattle.coda_cache.specs.Indexed.{set_all}
use Rattle.coda_cache.proofs.holds.HoldTable.set_all.Given as goal

abbrev pub invariant-loop-fid : goal.invariant-loop-fid
invariant-loop-fid l = l.self ≡ set_all l.fn.volume l.fn.dirty l.fn.self (take l.fid-index l.fids)
