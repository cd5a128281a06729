use Rattle.std.proofs.Common.{◌≡◌, ◌≤◌, ◌<◌, ℕ, take, get_or, length}
use Rattle.std.specs.Vec.{vec_len, vec_capacity}
use Rattle.coda_cancel.specs.declared.join.Join.{Join}
use Rattle.coda_cml.specs.Regrouping.{is_inside, AreJoinsBelow, DoJoinsRise}
use Rattle.coda_cml.proofs.regrouping.keep_widest.Given as goal

abbrev pub invariant-loop-join : goal.invariant-loop-join
invariant-loop-join l = record {
  inside : (number : ℕ) → is_inside l.widest.items number ≡ is_inside (take l.join-index l.joins) number;
  rise : DoJoinsRise l.widest.items;
  below : (d : Join) → l.join-index < length l.joins → AreJoinsBelow (get_or l.joins l.join-index d).number l.widest.items;
  len : vec_len l.widest ≤ l.join-index;
  capacity : vec_capacity l.widest ≡ vec_capacity l.fn.widest;
}
