use Rattle.std.proofs.Common.{List, ◌++◌, take}
use Rattle.coda_record.specs.declared.last.Last.{Last}
use Rattle.coda_resolve.specs.Lasts.{AreLatest}
use Rattle.coda_resolve.proofs.lasts.add_lasts.Given as goal

abbrev pub invariant-loop-last : goal.invariant-loop-last
invariant-loop-last l = (lasts : List Last) → AreLatest l.fn.table lasts → AreLatest l.table (lasts ++ take l.last-index l.more)
