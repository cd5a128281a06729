use Rattle.std.proofs.Common.{◌≡◌, ◌++◌, take}
use Rattle.coda_cache.specs.Room.{with_ancestors}
use Rattle.coda_cache.proofs.contents.Contents.add_ways.Given as goal

abbrev pub invariant-loop-fid : goal.invariant-loop-fid
invariant-loop-fid l = l.kept.items ≡ l.fn.kept.items ++ with_ancestors l.self (take l.fid-index l.fids)
