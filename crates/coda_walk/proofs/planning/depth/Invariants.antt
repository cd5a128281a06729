use Rattle.std.proofs.Common.{◌≡◌, ◌+◌, ◌-◌, length}
use Rattle.coda_walk.specs.Planning.{way_up}
use Rattle.coda_walk.proofs.Ways.{way_on}
use Rattle.coda_walk.proofs.planning.depth.Given as goal

abbrev pub invariant-loop-step : goal.invariant-loop-step
invariant-loop-step l = l.step + length (way_on l.items (l.step-end - l.step) l.at) ≡ length (way_up l.items l.fn.fid)
