use Rattle.std.proofs.Common.{length, take, ◌-◌, ◌≤◌}
use Rattle.coda_engine.specs.Lines.{HasNoNewline}
use Rattle.coda_engine.proofs.reader.front_of.Given as goal

-- no newline stands among the bytes so far
abbrev pub invariant-loop-count : goal.invariant-loop-count
invariant-loop-count l = (l.count ≤ length l.bytes) × HasNoNewline (take l.count l.bytes)

abbrev pub decreases-loop-count : goal.decreases-loop-count
decreases-loop-count l = length l.bytes - l.count
