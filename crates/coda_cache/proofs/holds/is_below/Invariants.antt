use Rattle.std.proofs.Common.{◌≡◌, ◌-◌}
use Rattle.std.specs.HashMap.{hash_map_len}
use Rattle.coda_walk.specs.Going.{is_listed}
use Rattle.coda_cache.specs.Held.{way_in, way_from}
use Rattle.coda_cache.proofs.holds.is_below.Given as goal

abbrev pub invariant-loop-step : goal.invariant-loop-step
invariant-loop-step l = is_listed (way_from l.holds (l._step-end - l._step) l.at) l.of ≡ is_listed (way_in l.holds (hash_map_len l.holds) l.fn.fid) l.of
