use Rattle.std.proofs.Common.{sym, subst}
use Rattle.coda_resolve.specs.Reading.{AreKnown}
use Rattle.coda_resolve.specs.Views.{replicas_of}
use Rattle.coda_resolve.proofs.Known.{known_read, all_long}
use Rattle.coda_resolve.proofs.reading.read.Goals as goal

pub read_object-requires-clause-long : goal.read_object-requires-clause-long
read_object-requires-clause-long c = all_long (replicas_of c.args.views.now) c.args.views.now c.loop-object.changed.items c.loop-object.renewals.items c.loop-object.invariant.renewed

pub loop-object-preserved : goal.loop-object-preserved
loop-object-preserved c =
    let views = c.args.views.now in
    let next = c.in_ok-known.ensures in
    record {
      known = subst (AreKnown (replicas_of views) c.read_object.new.changed.items) (sym c.in_ok-push.ensures.items)
          (known_read views c.object-item.result.0 c.in_ok-known.known c.loop-object.changed.items c.read_object.new.changed.items c.loop-object.renewals.items c.read_object.new.renewals.items c.loop-object.sights.items c.loop-object.invariant.known next);
      renewed = next.renewed c.loop-object.invariant.renewed;
    }
