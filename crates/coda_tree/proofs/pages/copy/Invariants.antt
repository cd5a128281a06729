use Rattle.std.proofs.Common.{◌≡◌, take}
use Rattle.coda_tree.specs.Pages.{all_pairs, AreFilled}
use Rattle.coda_tree.proofs.pages.copy.Given as goal

abbrev pub invariant-loop-page : goal.invariant-loop-page
invariant-loop-page l = record {
  pairs : all_pairs l.copy.items ≡ all_pairs (take l.page-index l.pages);
  filled : AreFilled (take l.page-index l.pages) → AreFilled l.copy.items;
}
