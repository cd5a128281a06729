use Rattle.std.proofs.Common.{take}
use Rattle.std.specs.List.{flat_map}
use Rattle.coda_reslog.specs.declared.entry.ResEntry.{ResEntry}
use Rattle.coda_resolve.specs.Causes.{fids_lost}
use Rattle.coda_resolve.specs.Counted.{AreFids}
use Rattle.coda_resolve.specs.Lent.{lent}
use Rattle.coda_resolve.proofs.doubles.lost.Given as goal

abbrev pub invariant-loop-update : goal.invariant-loop-update
invariant-loop-update l = AreFids l.fids (flat_map (λ (u : ResEntry). fids_lost u.lost) (lent (take l.update-index l.updates)))
