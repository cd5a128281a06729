use Rattle.std.proofs.Common.{◌≡◌, ◌+◌, drop}
use Rattle.coda_venus.specs.State.{ended_by}
use Rattle.coda_venus.proofs.fronts.ended_by.Given as goal

abbrev pub invariant-loop-segment : goal.invariant-loop-segment
invariant-loop-segment l = record {
  same : l.taken + ended_by l.number (drop l.segment-index l.segments) ≡ ended_by l.number l.segments;
  index : l.taken ≡ l.segment-index;
}
