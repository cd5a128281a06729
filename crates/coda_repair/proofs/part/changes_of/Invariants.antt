use Rattle.std.proofs.Common.{◌≡◌, ℕ, map, take}
use Rattle.std.specs.List.{AllZip}
use Rattle.coda_reslog.specs.declared.change.Change.{Change}
use Rattle.coda_record.specs.declared.view.View.{View}
use Rattle.coda_resolve.specs.Counted.{has_fid}
use Rattle.coda_resolve.specs.Resolution.{copies_at}
use Rattle.coda_resolve.specs.Views.{objects_of, replicas_of}
use Rattle.coda_resolve.specs.Renewals.{changes_of}
use Rattle.coda_repair.specs.Repaired.{IsReplicaRepair}
use Rattle.coda_repair.proofs.part.changes_of.Given as goal

abbrev pub invariant-loop-view : goal.invariant-loop-view
invariant-loop-view l = (map (λ (change : ℕ × Change). change.0) l.changes.items ≡ map (λ (view : View). view.server) (take l.view-index l.views))
    × AllZip (IsReplicaRepair (has_fid l.subtree.set) l.top l.from (copies_at (replicas_of l.views)) (objects_of l.right)) (replicas_of (take l.view-index l.views)) (changes_of l.changes.items)
