use Rattle.std.proofs.Common.{◌≡◌, take, length}
use Rattle.coda_resolve.proofs.same.same_ring.Given as goal

-- what stands before the index is the same
abbrev pub invariant-loop-index : goal.invariant-loop-index
invariant-loop-index l = record {
  front : take l.index l.one ≡ take l.index l.other;
  long : length l.one ≡ length l.other;
}
