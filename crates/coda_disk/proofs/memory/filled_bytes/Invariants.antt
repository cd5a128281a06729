use Rattle.std.proofs.Common.{◌≡◌}
use Rattle.coda_disk.specs.Images.{filled}
use Rattle.coda_disk.proofs.memory.filled_bytes.Given as goal

abbrev pub invariant-loop-i : goal.invariant-loop-i
invariant-loop-i l = l.bytes.items ≡ filled l.choice l.at l.i
