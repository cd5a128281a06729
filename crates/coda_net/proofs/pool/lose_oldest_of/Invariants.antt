use Rattle.std.proofs.Common.{◌≡◌}
use Rattle.coda_net.specs.Pool.{without_oldest_of}
use Rattle.coda_net.proofs.pool.lose_oldest_of.Given as goal

abbrev pub invariant-loop : goal.invariant-loop
invariant-loop l = l.letters.entries ≡ without_oldest_of l.counter l.fn.letters.entries
