use Rattle.std.proofs.Common.{◌≡◌, true, cond, ◌∷◌, length}
use Rattle.coda_cancel.specs.Cancel.{is_true_alone, others, is_undone}
use Rattle.coda_cancel.proofs.Walks.{beyond}
use Rattle.coda_cancel.proofs.undoing.is_undone.Given as goal

abbrev pub invariant-loop-number : goal.invariant-loop-number
invariant-loop-number l = is_true_alone (cond l.created (true ∷ others l.fid (beyond l.after l.shelf.records)) (others l.fid (beyond l.after l.shelf.records))) ≡ is_undone l.fid l.shelf.records

abbrev pub decreases-loop-number : goal.decreases-loop-number
decreases-loop-number l = length (beyond l.after l.shelf.records)
