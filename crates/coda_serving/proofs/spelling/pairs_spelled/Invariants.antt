use Rattle.std.specs.FinMap as map
use Rattle.coda_serving.specs.Spelling.{AreSpelledTo}
use Rattle.coda_serving.proofs.spelling.pairs_spelled.Given as goal

-- the pairs that were looked at can be spelled
abbrev pub invariant-loop-index : goal.invariant-loop-index
invariant-loop-index l = AreSpelledTo l.index (map.entries l.initial.entries)
