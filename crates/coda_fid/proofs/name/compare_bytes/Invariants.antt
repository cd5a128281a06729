use Rattle.std.proofs.Common.{◌≡◌, length}
use Rattle.coda_fid.specs.Name.{name_cmp}
use Rattle.coda_fid.proofs.name.compare_bytes.Given as goal

abbrev pub invariant-loop-left : goal.invariant-loop-left
invariant-loop-left l = name_cmp l.left-2 l.right-2 ≡ name_cmp l.left l.right

abbrev pub decreases-loop-left : goal.decreases-loop-left
decreases-loop-left l = length l.left
