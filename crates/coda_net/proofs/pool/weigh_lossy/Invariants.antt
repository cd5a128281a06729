use Rattle.std.proofs.Common.{◌≡◌, ◌+◌}
use Rattle.std.specs.Map.{values_of}
use Rattle.coda_net.specs.Pool.{lossy_bytes}
use Rattle.coda_net.proofs.pool.weigh_lossy.Given as goal

abbrev pub invariant-loop-letter : goal.invariant-loop-letter
invariant-loop-letter l = l.bytes + lossy_bytes l.letter-iterator ≡ lossy_bytes (values_of l.letters.entries)
