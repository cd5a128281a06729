use Rattle.std.proofs.Common.{◌≡◌, length}
use Rattle.std.specs.Prelude.{nat_eq}
use Rattle.std.specs.Cmp.Lexicographic.{pointwise}
use Rattle.coda_hdb.proofs.names.are_same.Given as goal

abbrev pub invariant-loop-left : goal.invariant-loop-left
invariant-loop-left l = pointwise (pointwise nat_eq) l.left-2 l.right-2 ≡ pointwise (pointwise nat_eq) l.left l.right

abbrev pub decreases-loop-left : goal.decreases-loop-left
decreases-loop-left l = length l.left
