use Rattle.std.proofs.Common.{◌≡◌}
use Rattle.std.specs.List.{list_any}
use Rattle.coda_cache.specs.State.{parent_of}
use Rattle.coda_cache.specs.Prospects.{leaves}
use Rattle.coda_cache.proofs.contents.Contents.is_closed.Given as goal

abbrev pub invariant-loop-fid : goal.invariant-loop-fid
invariant-loop-fid l = list_any (leaves l.set (parent_of l.self)) l.fid-iterator ≡ list_any (leaves l.set (parent_of l.self)) l.set.keys
