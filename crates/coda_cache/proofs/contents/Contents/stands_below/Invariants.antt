use Rattle.std.proofs.Common.{◌≡◌, ◌-◌}
use Rattle.coda_walk.specs.Going.{is_listed}
use Rattle.coda_cache.specs.Ways.{way_on, is_below}
use Rattle.coda_cache.proofs.contents.Contents.stands_below.Given as goal

abbrev pub invariant-loop-step : goal.invariant-loop-step
invariant-loop-step l = is_listed (way_on l.self (l._step-end - l._step) l.at) l.of ≡ is_below l.self l.fn.fid l.of
