use Rattle.std.proofs.Common.{◌≡◌, ◌≤◌, ◌-◌, length, take}
use Rattle.coda_lanes.proofs.bytes.same_bytes.Given as goal

abbrev pub decreases-loop-at : goal.decreases-loop-at
decreases-loop-at l = length l.a - l.at

-- both are as long, and the same up to the place
abbrev pub invariant-loop-at : goal.invariant-loop-at
invariant-loop-at l = record {
  within : l.at ≤ length l.a;
  long : length l.a ≡ length l.b;
  same : take l.at l.a ≡ take l.at l.b;
}
