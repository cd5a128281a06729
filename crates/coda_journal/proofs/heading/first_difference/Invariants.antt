use Rattle.std.proofs.Common.{take, ◌≡◌}
use Rattle.coda_journal.proofs.heading.first_difference.Given as goal

abbrev pub invariant-loop-place : goal.invariant-loop-place
invariant-loop-place l = take l.place l.found ≡ take l.place l.asked
