use Rattle.std.proofs.Common.{◌≡◌, take}
use Rattle.coda_cache.specs.Indexed.{left_by}
use Rattle.coda_cache.proofs.holds.HoldTable.leave_all.Given as goal

abbrev pub invariant-loop-fid : goal.invariant-loop-fid
invariant-loop-fid l = l.self ≡ left_by l.volume l.server l.fn.self (take l.fid-index l.fids)
