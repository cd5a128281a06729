use Rattle.std.proofs.Common.{◌≡◌, ◌&&◌, not, map, take}
use Rattle.std.specs.List.{filter}
use Rattle.coda_fid.specs.declared.fid.Fid.{Fid}
use Rattle.coda_reslog.specs.declared.change.Held.{Held}
use Rattle.coda_resolve.specs.Counted.{has_fid}
use Rattle.coda_repair.proofs.part.gone.Given as goal

abbrev pub invariant-loop-place : goal.invariant-loop-place
invariant-loop-place l = l.fids.items ≡ filter (λ f. has_fid l.below f && not (has_fid l.subtree f)) (map (λ (o : Fid × Held). o.0) (take l.place l.objects))
