use Rattle.std.proofs.Common.{◌≡◌, drop}
use Rattle.std.specs.Prelude.{slice_get}
use Rattle.coda_tree.specs.Pages.{all_pairs}
use Rattle.coda_tree.proofs.pages.pair_at.Given as goal

abbrev pub invariant-loop-page : goal.invariant-loop-page
invariant-loop-page l = slice_get (all_pairs (drop l.page-index l.pages)) l.left ≡ slice_get (all_pairs l.pages) l.fn.index
