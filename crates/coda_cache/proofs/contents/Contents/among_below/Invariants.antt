use Rattle.std.proofs.Common.{◌≡◌, take}
use Rattle.std.specs.List.{filter}
use Rattle.coda_cache.specs.Ways.{is_below}
use Rattle.coda_cache.proofs.contents.Contents.among_below.Given as goal

abbrev pub invariant-loop-other : goal.invariant-loop-other
invariant-loop-other l = l.below.items ≡ filter (λ g. is_below l.self g l.fn.fid) (take l.other-index l.fids)
