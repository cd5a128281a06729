use Rattle.std.proofs.Common.{◌≡◌, true, cond, ◌∷◌, length}
use Rattle.coda_cancel.specs.Cancel.{is_true_alone, others, is_undone}
use Rattle.coda_cancel.proofs.scanning.is_undone.Given as goal

abbrev pub invariant-loop-record : goal.invariant-loop-record
invariant-loop-record l = is_true_alone (cond l.created (true ∷ others l.fid l.records) (others l.fid l.records)) ≡ is_undone l.fid l.fn.records

abbrev pub decreases-loop-record : goal.decreases-loop-record
decreases-loop-record l = length l.records
