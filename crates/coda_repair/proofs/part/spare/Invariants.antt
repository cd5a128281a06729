use Rattle.std.proofs.Common.{◌≡◌, map, take}
use Rattle.std.specs.BTreeMap.{get}
use Rattle.coda_fid.specs.Fid.{fid_cmp}
use Rattle.coda_fid.specs.declared.fid.Fid.{Fid}
use Rattle.coda_reslog.specs.declared.change.Held.{Held}
use Rattle.coda_resolve.specs.Counted.{has_fid}
use Rattle.coda_resolve.specs.Views.{objects_of}
use Rattle.coda_repair.specs.Making.{spare_at, or_else}
use Rattle.coda_repair.proofs.part.spare.Given as goal

abbrev pub invariant-loop-place : goal.invariant-loop-place
invariant-loop-place l = (f : Fid) → get fid_cmp l.held f ≡ or_else (spare_at (has_fid l.subtree) (has_fid l.below) l.top (objects_of l.view) (map (λ (o : Fid × Held). o.0) (take l.place l.objects)) f) (get fid_cmp l.fn.held f)
