use Rattle.std.proofs.Common.{◌-◌, length}
use Rattle.coda_resolve.specs.Views.{IsBetween}
use Rattle.coda_resolve.proofs.view.search_after.Given as goal

abbrev pub invariant-loop-step : goal.invariant-loop-step
invariant-loop-step l = IsBetween l.items l.fid l.low (length l.items)

abbrev pub decreases-loop-step : goal.decreases-loop-step
decreases-loop-step l = length l.items - l.low
