use Rattle.std.proofs.Common.{◌≡◌, ◌+◌, drop}
use Rattle.coda_cml.specs.Chunks.{first_filled}
use Rattle.coda_venus.proofs.fronts.first_filled.Given as goal

abbrev pub invariant-loop-segment : goal.invariant-loop-segment
invariant-loop-segment l = record {
  same : l.taken + first_filled (drop l.segment-index l.segments) ≡ first_filled l.segments;
  index : l.taken ≡ l.segment-index;
}
