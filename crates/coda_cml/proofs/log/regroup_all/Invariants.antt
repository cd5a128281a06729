use Rattle.std.proofs.Common.{◌≡◌, ◌+◌, ◌≤◌, ◌++◌, length, take}
use Rattle.std.specs.Vec.{vec_len, vec_capacity}
use Rattle.coda_cml.proofs.log.regroup_all.Given as goal

abbrev pub invariant-loop-segment : goal.invariant-loop-segment
invariant-loop-segment l = record {
  items : l.segments.items ≡ l.initial.segments.items ++ take l.segment-index l.segment-items;
  room : vec_len l.initial.segments + length l.segment-items ≤ vec_capacity l.segments;
}
