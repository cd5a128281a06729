use Rattle.std.proofs.Common.{◌≡◌, drop}
use Rattle.coda_script.specs.Lines.{first_byte}
use Rattle.coda_script.proofs.reading.first_byte.Given as goal

abbrev pub invariant-loop-byte : goal.invariant-loop-byte
invariant-loop-byte l = first_byte l.line ≡ first_byte (drop l.byte-index l.line)
