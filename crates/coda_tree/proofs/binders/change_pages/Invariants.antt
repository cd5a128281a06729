use Rattle.std.proofs.Common.{drop}
use Rattle.coda_fid.specs.declared.fid.Fid.{Fid}
use Rattle.coda_tree.specs.Pages.{all_pairs}
use Rattle.coda_tree.specs.Binders.{bound_at, after_all, SaysNoMore}
use Rattle.coda_tree.proofs.binders.change_pages.Given as goal

abbrev pub invariant-loop-page : goal.invariant-loop-page
invariant-loop-page l = (q : Fid) → SaysNoMore (after_all l.change (all_pairs l.pages) q (bound_at l.fn.binders q)) (after_all l.change (all_pairs (drop l.page-index l.pages)) q (bound_at l.binders q))
