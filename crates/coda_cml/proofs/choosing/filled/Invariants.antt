use Rattle.std.proofs.Common.{◌≡◌, drop}
use Rattle.std.specs.List.{find}
use Rattle.coda_cml.specs.Chunks.{is_filled}
use Rattle.coda_cml.proofs.choosing.filled.Given as goal

abbrev pub invariant-loop-segment : goal.invariant-loop-segment
invariant-loop-segment l = find is_filled (drop l.segment-index l.segments) ≡ find is_filled l.segments
