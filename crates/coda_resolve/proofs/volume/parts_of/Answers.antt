use Rattle.std.proofs.Common.{sym, subst, take}
use Rattle.coda_resolve.specs.Renewals.{AreParts}
use Rattle.coda_resolve.specs.Views.{objects_of, replicas_of}
use Rattle.coda_resolve.proofs.Known.{left_more}
use Rattle.coda_resolve.proofs.Merging.{view_in, replicas_more, servers_more}
use Rattle.coda_resolve.proofs.volume.parts_of.Goals as goal

pub part_of-requires-clause-own : goal.part_of-requires-clause-own
part_of-requires-clause-own c = (left_more (replicas_of c.args.views.now) c.args.views.now c.loop-view.view-index c.view-item.result c.args.changed.now c.loop-view.renewals.items c.pop.new.self.items c.in-Some.own c.loop-view-test.true c.view-item.is c.in-Some.ensures.items c.loop-view.invariant.left).0

pub loop-view-preserved : goal.loop-view-preserved
loop-view-preserved c =
    let views = c.args.views.now in
    let i = c.loop-view.view-index in
    let view = c.view-item.result in
    record {
      servers = servers_more views i view c.loop-view.changes.items c.add_part.new.changes.items c.in_ok-part.part.change c.loop-view-test.true c.view-item.is c.loop-view.invariant.servers c.in_ok-add_part.ensures.change;
      parts = λ root history all.
          subst (λ done. AreParts (replicas_of views) root done c.add_part.new.changes.items c.add_part.new.touched) (sym (replicas_more views i view c.loop-view-test.true c.view-item.is))
          (c.in_ok-add_part.ensures.parts (replicas_of views) root (replicas_of (take i views)) (objects_of view) (c.in_ok-part.ensures root history all (view_in views i view c.loop-view-test.true c.view-item.is)) (c.loop-view.invariant.parts root history all));
      left = (left_more (replicas_of views) views i view c.args.changed.now c.loop-view.renewals.items c.pop.new.self.items c.in-Some.own c.loop-view-test.true c.view-item.is c.in-Some.ensures.items c.loop-view.invariant.left).1;
    }
