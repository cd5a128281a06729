use Rattle.coda_resolve.specs.Reading.{AreKnown, AreAllRenewed}
use Rattle.coda_resolve.specs.Views.{replicas_of}
use Rattle.coda_resolve.proofs.reading.read.Given as goal

abbrev pub invariant-loop-object : goal.invariant-loop-object
invariant-loop-object l = record {
  known : AreKnown (replicas_of l.views) l.changed.items l.sights.items;
  renewed : AreAllRenewed (replicas_of l.views) l.views l.changed.items l.renewals.items;
}
