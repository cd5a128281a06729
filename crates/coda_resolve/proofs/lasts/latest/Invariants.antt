use Rattle.std.proofs.Common.{take}
use Rattle.std.specs.List.{flat_map}
use Rattle.coda_record.specs.declared.view.View.{View}
use Rattle.coda_resolve.specs.Lasts.{AreLatest}
use Rattle.coda_resolve.proofs.lasts.latest.Given as goal

abbrev pub invariant-loop-view : goal.invariant-loop-view
invariant-loop-view l = AreLatest l.table (flat_map (λ (view : View). view.lasts) (take l.view-index l.views))
