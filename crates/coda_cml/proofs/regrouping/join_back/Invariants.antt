use Rattle.std.proofs.Common.{◌≡◌, ℕ, ◌+◌, ◌<◌, ◌≤◌, drop, take, length, get_or}
use Rattle.coda_cml.specs.declared.segment.Segment.{Segment}
use Rattle.coda_cml.specs.Longest.{total}
use Rattle.coda_cml.specs.LastSegment.{all_joined}
use Rattle.coda_cml.proofs.regrouping.join_back.Given as goal

abbrev pub invariant-loop-kept : goal.invariant-loop-kept
invariant-loop-kept l = record {
  within : l.kept ≤ length l.segments.items;
  all : l.all ≡ all_joined (drop l.kept l.segments.items) l.fn.last;
  count : total (take l.kept l.segments.items) + l.all.count ≡ total l.segments.items + l.fn.last.count;
  behind : (j : ℕ) (d : Segment) → l.kept ≤ j → j < length l.segments.items → l.least ≤ (get_or l.segments.items j d).last;
}

abbrev pub decreases-loop-kept : goal.decreases-loop-kept
decreases-loop-kept l = l.kept
