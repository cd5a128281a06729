use Rattle.std.proofs.Common.{◌++◌, List, take}
use Rattle.coda_reslog.specs.declared.entry.ResEntry.{ResEntry}
use Rattle.coda_resolve.specs.Stamps.{AreStamps}
use Rattle.coda_resolve.proofs.stamps.add_log.Given as goal

abbrev pub invariant-loop-index : goal.invariant-loop-index
invariant-loop-index l = (updates : List ResEntry) → AreStamps l.initial.stamps updates → AreStamps l.stamps (updates ++ take l.index l.log)
