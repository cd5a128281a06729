use Rattle.std.proofs.Common.{◌≡◌, take}
use Rattle.std.specs.List.{filter_map}
use Rattle.coda_walk.specs.Planning.{item_at}
use Rattle.coda_walk.proofs.planning.used.Given as goal

abbrev pub invariant-loop-fid : goal.invariant-loop-fid
invariant-loop-fid l = l.used.items ≡ filter_map (item_at l.items) (take l.fid-index l.recency)
