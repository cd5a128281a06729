use Rattle.std.proofs.Common.{drop}
use Rattle.coda_fid.specs.declared.fid.Fid.{Fid}
use Rattle.coda_tree.specs.Binders.{bound_at, after_all, SaysNoMore}
use Rattle.coda_tree.proofs.binders.change_page.Given as goal

abbrev pub invariant-loop-pair : goal.invariant-loop-pair
invariant-loop-pair l = (q : Fid) → SaysNoMore (after_all l.change l.page q (bound_at l.fn.binders q)) (after_all l.change (drop l.pair-index l.page) q (bound_at l.binders q))
