use Rattle.std.proofs.Common.{◌≡◌, ◌++◌, ◌-◌}
use Rattle.coda_cache.specs.Ways.{way_up, way_on}
use Rattle.coda_cache.proofs.contents.Contents.way_up.Given as goal

abbrev pub invariant-loop-step : goal.invariant-loop-step
invariant-loop-step l = l.way.items ++ way_on l.self (l._step-end - l._step) l.at ≡ way_up l.self l.fn.fid
