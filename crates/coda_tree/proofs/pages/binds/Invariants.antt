use Rattle.std.proofs.Common.{◌≡◌, drop}
use Rattle.coda_tree.specs.Pages.{all_pairs, any_binds}
use Rattle.coda_tree.proofs.pages.binds.Given as goal

abbrev pub invariant-loop-page : goal.invariant-loop-page
invariant-loop-page l = any_binds l.fid (all_pairs l.pages) ≡ any_binds l.fid (all_pairs (drop l.page-index l.pages))
