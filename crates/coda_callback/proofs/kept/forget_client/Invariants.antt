use Rattle.std.proofs.Common.{◌≡◌, false, ◌==◌}
use Rattle.std.specs.BTreeSet.{btree_set_len}
use Rattle.coda_callback.specs.declared.interest.Interest.{Interest}
use Rattle.coda_callback.specs.Kept.{AreBounded, has}
use Rattle.coda_callback.proofs.kept.forget_client.Given as goal

abbrev pub decreases-loop-interest : goal.decreases-loop-interest
decreases-loop-interest l = btree_set_len l.kept

abbrev pub invariant-loop-interest : goal.invariant-loop-interest
invariant-loop-interest l = record {
  bounded : AreBounded (has l.kept);
  others : (q : Interest) → (q.client == l.client) ≡ false → has l.kept q ≡ has l.fn.kept q;
}
