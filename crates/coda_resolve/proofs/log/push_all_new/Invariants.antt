use Rattle.std.proofs.Common.{◌≡◌, ◌++◌, List, take, not}
use Rattle.std.specs.List.{filter}
use Rattle.coda_reslog.specs.declared.entry.ResEntry.{ResEntry}
use Rattle.coda_reslog.specs.Rings.{last_entries}
use Rattle.coda_resolve.specs.Merged.{stands_in}
use Rattle.coda_resolve.specs.Stamps.{AreStamps}
use Rattle.coda_resolve.proofs.log.push_all_new.Given as goal

abbrev pub invariant-loop-index : goal.invariant-loop-index
invariant-loop-index l = (known updates : List ResEntry) → AreStamps l.stamps known → l.initial.ring ≡ last_entries updates → l.ring ≡ last_entries (updates ++ filter (λ u. not (stands_in known u)) (take l.index l.log))
