use Rattle.coda_resolve.specs.Views.{replicas_of}
use Rattle.coda_resolve.proofs.Known.{none_more}
use Rattle.coda_resolve.proofs.reading.no_renewals.Goals as goal

pub loop-view-preserved : goal.loop-view-preserved
loop-view-preserved c = none_more (replicas_of c.args.views.now) c.args.views.now c.loop-view._view-index c._view-item.result c.loop-view.all.items c.push.new.self.items (record { held = c.new.result; touched = c.new-in-loop-view.result }) c.loop-view-test.true c._view-item.is c.new.ensures.empty c.new-in-loop-view.ensures.items c.in_ok-push.ensures.items c.loop-view.invariant
