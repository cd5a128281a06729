use Rattle.std.proofs.Common.{◌≡◌, not, take}
use Rattle.std.specs.List.{filter}
use Rattle.coda_resolve.specs.Counted.{has_fid}
use Rattle.coda_resolve.proofs.part.gone.Given as goal

abbrev pub invariant-loop-fid : goal.invariant-loop-fid
invariant-loop-fid l = l.fids.items ≡ filter (λ f. not (has_fid l.fn.below f)) (take l.fid-index l.objects)
