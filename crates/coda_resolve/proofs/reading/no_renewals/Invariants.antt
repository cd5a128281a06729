use Rattle.std.proofs.Common.{[], take}
use Rattle.coda_resolve.specs.Reading.{AreAllRenewed}
use Rattle.coda_resolve.specs.Views.{replicas_of}
use Rattle.coda_resolve.proofs.reading.no_renewals.Given as goal

abbrev pub invariant-loop-view : goal.invariant-loop-view
invariant-loop-view l = AreAllRenewed (replicas_of l.fn.views) (take l._view-index l.views) [] l.all.items
