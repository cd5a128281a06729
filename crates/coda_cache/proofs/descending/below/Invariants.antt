use Rattle.std.proofs.Common.{◌≡◌, ◌&&◌}
use Rattle.coda_fid.specs.declared.fid.Fid.{Fid}
use Rattle.coda_walk.specs.Going.{is_listed}
use Rattle.coda_cache.specs.State.{is_cached}
use Rattle.coda_cache.specs.Ways.{way_within}
use Rattle.coda_cache.specs.Indexed.{is_down}
use Rattle.coda_cache.proofs.descending.below.Given as goal

abbrev pub invariant-loop-step : goal.invariant-loop-step
invariant-loop-step l = record {
  level : (f : Fid) → is_listed l.level.items f ≡ is_down l.contents l._step l.fn.fid f;
  below : (f : Fid) → is_listed l.below.items f ≡ (is_listed (way_within l.contents l._step f) l.fn.fid && is_cached l.contents f);
}
