use Rattle.std.proofs.Common.{◌≡◌, take}
use Rattle.std.specs.FinMap as map
use Rattle.coda_cache.specs.Steps.{given_to}
use Rattle.coda_cache.proofs.priorities.PriorityTable.of.Given as goal

abbrev pub invariant-loop-given : goal.invariant-loop-given
invariant-loop-given l = l.table ≡ given_to map.empty (take l.given-index l.fn.of)
