use Rattle.std.proofs.Common.{◌≡◌, ◌+◌, take}
use Rattle.coda_walk.specs.Climbing.{blocks_on}
use Rattle.coda_walk.proofs.taking.room_beside.Given as goal

abbrev pub invariant-loop-fid : goal.invariant-loop-fid
invariant-loop-fid l = l.left + blocks_on l.items (take l.fid-index l.fids) ≡ l.fn.room
