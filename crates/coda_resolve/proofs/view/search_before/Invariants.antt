use Rattle.coda_resolve.specs.Views.{IsBetween}
use Rattle.coda_resolve.proofs.view.search_before.Given as goal

abbrev pub invariant-loop-step : goal.invariant-loop-step
invariant-loop-step l = IsBetween l.items l.fid 0 l.high

abbrev pub decreases-loop-step : goal.decreases-loop-step
decreases-loop-step l = l.high
