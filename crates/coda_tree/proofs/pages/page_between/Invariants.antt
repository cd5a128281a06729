use Rattle.std.proofs.Common.{◌≡◌, ◌≢◌, ◌<◌, ◌≤◌, ◌-◌, length}
use Rattle.std.specs.declared.cmp.Ordering.TheVariants.{Greater}
use Rattle.coda_tree.specs.Pages.{pairs_at, first_cmp}
use Rattle.coda_tree.proofs.pages.page_between.Given as goal

abbrev pub invariant-loop-low : goal.invariant-loop-low
invariant-loop-low l = record {
  ordered : l.low < l.high;
  in_range : l.high ≤ length l.pages;
  from : 0 < l.low → first_cmp (pairs_at l.pages l.low) l.name ≢ Greater;
  to : l.high < length l.pages → first_cmp (pairs_at l.pages l.high) l.name ≡ Greater;
}

abbrev pub decreases-loop-low : goal.decreases-loop-low
decreases-loop-low l = l.high - l.low
