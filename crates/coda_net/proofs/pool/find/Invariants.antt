use Rattle.std.proofs.Common.{◌≡◌}
use Rattle.coda_net.specs.Pool.{found}
use Rattle.coda_net.proofs.pool.find.Given as goal

abbrev pub invariant-loop-number : goal.invariant-loop-number
invariant-loop-number l = found l.number-iterator l.client l.server l.bytes ≡ found l.letters.entries l.client l.server l.bytes
