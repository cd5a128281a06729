use Rattle.std.proofs.Common.{◌≡◌, ◌++◌, ◌-◌}
use Rattle.coda_cache.specs.Prospects.{way_ahead, way_ahead_on}
use Rattle.coda_cache.proofs.contents.Contents.way_ahead.Given as goal

abbrev pub invariant-loop-step : goal.invariant-loop-step
invariant-loop-step l = l.way.items ++ way_ahead_on l.self l.prospect (l._step-end - l._step) l.at ≡ way_ahead l.self l.prospect l.prospect.steps l.fn.fid
