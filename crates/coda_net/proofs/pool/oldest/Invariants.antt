use Rattle.std.proofs.Common.{◌≡◌, ◌+◌, length}
use Rattle.std.specs.Map.{values_of}
use Rattle.coda_net.specs.Pool.{oldest_place}
use Rattle.coda_net.proofs.pool.oldest.Given as goal

abbrev pub invariant-loop-letter : goal.invariant-loop-letter
invariant-loop-letter l =
    (l.place + oldest_place l.letter-iterator ≡ oldest_place (values_of l.letters.entries)) × (l.place + length l.letter-iterator ≡ length (values_of l.letters.entries))
