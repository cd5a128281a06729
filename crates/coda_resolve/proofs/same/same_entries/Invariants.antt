use Rattle.std.proofs.Common.{◌≡◌, take}
use Rattle.std.specs.FinMap as finmap
use Rattle.coda_resolve.proofs.same.same_entries.Given as goal

-- what stands before the index is the same
abbrev pub invariant-loop-index : goal.invariant-loop-index
invariant-loop-index l = record {
  front : take l.index (finmap.entries l.one) ≡ take l.index (finmap.entries l.other);
  long : finmap.len l.one ≡ finmap.len l.other;
}
