use Rattle.std.proofs.Common.{◌≡◌, ◌+◌, drop}
use Rattle.coda_cml.specs.Chunks.{old_front}
use Rattle.coda_venus.proofs.fronts.old_front.Given as goal

abbrev pub invariant-loop-segment : goal.invariant-loop-segment
invariant-loop-segment l = record {
  same : l.taken + old_front l.now l.window l.room (drop l.segment-index l.segments) ≡ old_front l.now l.window l.cap l.segments;
  index : l.taken ≡ l.segment-index;
}
