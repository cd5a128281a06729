use Rattle.std.proofs.Common.{subst, sym}
use Rattle.coda_resolve.specs.Counted.{has_fid}
use Rattle.coda_resolve.specs.Placement.{IsIn}
use Rattle.coda_resolve.specs.Resolution.{copies_at}
use Rattle.coda_resolve.specs.Views.{objects_of, replicas_of}
use Rattle.coda_repair.specs.Repaired.{IsReplicaRepair}
use Rattle.coda_repair.proofs.Made.{change_more}
use Rattle.coda_repair.proofs.Repairs.{in_replicas}
use Rattle.coda_repair.proofs.part.changes_of.Goals as goal

pub loop-view-preserved : goal.loop-view-preserved
loop-view-preserved c =
    let views = c.args.views.now in
    change_more (IsReplicaRepair (has_fid c.args.subtree.now.set) c.args.top c.args.from (copies_at (replicas_of views)) (objects_of c.args.right.now)) views c.loop-view.view-index c.view-item.result c.loop-view.changes.items c.push.new.self.items c.in_ok-change.change c.loop-view-test.true c.view-item.is c.in_ok-push.ensures.items c.loop-view.invariant
    (c.in_ok-change.ensures (subst (λ v. IsIn (objects_of v) (replicas_of views)) (sym c.view-item.is) (in_replicas views c.loop-view.view-index c.view-item.result c.loop-view-test.true)))
