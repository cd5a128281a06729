use Rattle.std.proofs.Common.{◌≡◌, ◌≤◌, ◌||◌, ℕ}
use Rattle.std.specs.Vec.{vec_len, vec_capacity}
use Rattle.coda_cml.specs.Regrouping.{is_inside, is_within, AreJoinsBelow, DoJoinsRise}
use Rattle.coda_cml.proofs.regrouping.put_join.Given as goal

abbrev pub invariant-loop-joins : goal.invariant-loop-joins
invariant-loop-joins l = record {
  inside : (number : ℕ) → (is_inside l.joins.items number || is_within number l.join) ≡ (is_inside l.fn.joins.items number || is_within number l.join);
  rise : DoJoinsRise l.joins.items;
  below : AreJoinsBelow l.join.number l.joins.items;
  len : vec_len l.joins ≤ vec_len l.fn.joins;
  capacity : vec_capacity l.joins ≡ vec_capacity l.fn.joins;
}

abbrev pub decreases-loop-joins : goal.decreases-loop-joins
decreases-loop-joins l = vec_len l.joins
