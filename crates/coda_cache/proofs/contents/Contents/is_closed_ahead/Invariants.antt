use Rattle.std.proofs.Common.{◌≡◌}
use Rattle.std.specs.List.{list_any}
use Rattle.coda_cache.specs.Prospects.{parent_ahead, leaves}
use Rattle.coda_cache.proofs.contents.Contents.is_closed_ahead.Given as goal

abbrev pub invariant-loop-fid : goal.invariant-loop-fid
invariant-loop-fid l = list_any (leaves l.set (parent_ahead l.self l.prospect)) l.fid-iterator ≡ list_any (leaves l.set (parent_ahead l.self l.prospect)) l.set.keys
