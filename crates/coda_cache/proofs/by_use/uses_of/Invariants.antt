use Rattle.std.proofs.Common.{◌≡◌, take}
use Rattle.std.specs.Prelude as prelude
use Rattle.std.specs.List.{list_any}
use Rattle.std.specs.BTreeSet as btree
use Rattle.std.specs.Ordering.{eq_by_cmp}
use Rattle.coda_walk.specs.Queue.{time_of}
use Rattle.coda_cache.specs.declared.by_use.Use.{Use}
use Rattle.coda_cache.specs.Indexed.{use_cmp, use_of}
use Rattle.coda_cache.proofs.by_use.uses_of.Given as goal

abbrev pub invariant-loop-fid : goal.invariant-loop-fid
invariant-loop-fid l = (u : Use) → btree.contains use_cmp l.uses u ≡ list_any (λ k. eq_by_cmp use_cmp k u) (prelude.map (use_of (time_of l.queue)) (take l.fid-index l.fids))
