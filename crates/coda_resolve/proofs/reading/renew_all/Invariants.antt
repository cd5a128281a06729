use Rattle.std.proofs.Common.{◌≡◌, List, length}
use Rattle.coda_fid.specs.declared.fid.Fid.{Fid}
use Rattle.coda_resolve.specs.Reading.{AreAllRenewed}
use Rattle.coda_resolve.specs.Views.{replicas_of}
use Rattle.coda_resolve.proofs.Known.{AreUpTo}
use Rattle.coda_resolve.proofs.reading.renew_all.Given as goal

-- the first views hold anew one object more
abbrev pub invariant-loop-at : goal.invariant-loop-at
invariant-loop-at l = record {
  long : length l.renewals.items ≡ length l.views;
  more : (objects : List Fid) → AreAllRenewed (replicas_of l.views) l.views objects l.fn.renewals.items → AreUpTo (replicas_of l.views) objects l.fid l.at l.views l.renewals.items;
}
