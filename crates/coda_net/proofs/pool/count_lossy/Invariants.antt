use Rattle.std.proofs.Common.{◌≡◌, ◌+◌}
use Rattle.std.specs.Map.{values_of}
use Rattle.coda_net.specs.Pool.{lossy_count}
use Rattle.coda_net.proofs.pool.count_lossy.Given as goal

abbrev pub invariant-loop-letter : goal.invariant-loop-letter
invariant-loop-letter l = l.count + lossy_count l.letter-iterator ≡ lossy_count (values_of l.letters.entries)
