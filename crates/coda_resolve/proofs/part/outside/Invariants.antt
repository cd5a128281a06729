use Rattle.std.proofs.Common.{◌≡◌, not, take}
use Rattle.std.specs.List.{filter}
use Rattle.coda_resolve.specs.Counted.{has_hashed}
use Rattle.coda_resolve.proofs.part.outside.Given as goal

abbrev pub invariant-loop-fid : goal.invariant-loop-fid
invariant-loop-fid l = l.fids.items ≡ filter (λ f. not (has_hashed l.fn.set f)) (take l.fid-index l.objects)
