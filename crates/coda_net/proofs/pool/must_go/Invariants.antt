use Rattle.std.proofs.Common.{◌≡◌, ◌+◌, ◌≤◌}
use Rattle.std.specs.Map.{values_of}
use Rattle.coda_net.specs.Pool.{lossy_count, lossy_bytes, must_go}
use Rattle.coda_net.proofs.pool.must_go.Given as goal

abbrev pub invariant-loop-letter : goal.invariant-loop-letter
invariant-loop-letter l =
    (l.count ≡ 1 + lossy_count l.letter-iterator) × (l.weight ≡ l.bytes + lossy_bytes l.letter-iterator) × (l.lost + lossy_count l.letter-iterator ≤ 1024)
    × (l.lost + must_go 1 l.bytes l.letter-iterator ≡ must_go 1 l.bytes (values_of l.letters.entries))
