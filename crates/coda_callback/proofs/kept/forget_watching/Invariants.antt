use Rattle.std.proofs.Common.{◌≡◌, false, ◌==◌}
use Rattle.std.specs.BTreeSet.{btree_set_len}
use Rattle.coda_callback.specs.declared.interest.Interest.{Interest}
use Rattle.coda_callback.specs.Kept.{AreBounded, has, is_watched, IsSame}
use Rattle.coda_callback.proofs.kept.forget_watching.Given as goal

abbrev pub decreases-loop-interest : goal.decreases-loop-interest
decreases-loop-interest l = btree_set_len l.promised

abbrev pub invariant-loop-interest : goal.invariant-loop-interest
invariant-loop-interest l = record {
  bounded : AreBounded (has l.promised);
  others : (q : Interest) → (q.client == l.client) ≡ false → has l.promised q ≡ has l.fn.promised q;
  mirrored : IsSame (is_watched l.watched) (has l.promised);
}
