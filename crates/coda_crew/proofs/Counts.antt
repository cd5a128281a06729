-- What is counted of the slots of a crew, where one of them changes.
use Rattle.std.proofs.Common.{◌≡◌, ◌≤◌, ◌+◌, ℕ, Bool, true, false, cond, List, [], ◌∷◌, Some, None, sym, ap, ◌∙◌, arith}
use Rattle.std.proofs.lemmas.Bool.{false≢true}
use Rattle.std.specs.Option.{IsSome}
use Rattle.std.specs.declared.cmp.Ordering.{Ordering}
use Rattle.std.specs.declared.cmp.Ordering.TheVariants.{Less, Equal, Greater}
use Rattle.std.specs.BTreeMap.{BTreeMap, is_at, get, insert_entry, WritesThrough}
use Rattle.std.specs.Map.{lookup, set_value}
use Rattle.std.specs.Ordering.{is_eq, match_ordering, nat_cmp}
use Rattle.coda_actors.specs.declared.slot.Slot.{Slot}
use Rattle.coda_actors.specs.declared.slot.Slot.TheVariants.{Vacant}
use Rattle.coda_crew.specs.Crews.{slot_or_vacant, slot_at, sum_of, CountsAt}

module _ {A D : Type 0} (count : Slot A D → ℕ) where
  sum_set : (test : ℕ → Bool) (es : List (ℕ × Slot A D)) (w : Slot A D) → IsSome (lookup test es) → sum_of count (set_value test es w) + count (slot_or_vacant (lookup test es)) ≡ sum_of count es + count w
  sum_set test [] w there = absurd (false≢true there)
  sum_set test (e ∷ es) w there = go (test e.0) (sum_set test es w) there
    where
      go : (b : Bool) → (IsSome (lookup test es) → sum_of count (set_value test es w) + count (slot_or_vacant (lookup test es)) ≡ sum_of count es + count w) → IsSome (cond b (Some e.1) (lookup test es))
          → sum_of count (cond b ((e.0, w) ∷ es) (e ∷ set_value test es w)) + count (slot_or_vacant (cond b (Some e.1) (lookup test es))) ≡ (count e.1 + sum_of count es) + count w
      go true more is = omega arith
      go false more is = let m = more is in omega (arith, m)

  sum_place : count Vacant ≡ 0 → (k : ℕ) (es : List (ℕ × Slot A D)) → lookup (is_at (nat_cmp k)) es ≡ None → sum_of count (insert_entry nat_cmp es k Vacant) ≡ sum_of count es
  sum_place none k [] missing = omega (arith, none)
  sum_place none k (e ∷ es) missing = go (nat_cmp k e.0) (sum_place none k es) missing
    where
      go : (o : Ordering) → (lookup (is_at (nat_cmp k)) es ≡ None → sum_of count (insert_entry nat_cmp es k Vacant) ≡ sum_of count es) → cond (is_eq o) (Some e.1) (lookup (is_at (nat_cmp k)) es) ≡ None
          → sum_of count (match_ordering o ((k, Vacant) ∷ e ∷ es) ((e.0, Vacant) ∷ es) (e ∷ insert_entry nat_cmp es k Vacant)) ≡ count e.1 + sum_of count es
      go Less more is = omega (arith, none)
      go Equal more is = cc
      go Greater more is = let m = more is in omega (arith, m)

  -- what is counted of one slot is among what is counted of all
  pub sum_has : (test : ℕ → Bool) (es : List (ℕ × Slot A D)) → count Vacant ≡ 0 → count (slot_or_vacant (lookup test es)) ≤ sum_of count es
  sum_has test [] none = omega (arith, none)
  sum_has test (e ∷ es) none = go (test e.0) (sum_has test es none)
    where
      go : (b : Bool) → count (slot_or_vacant (lookup test es)) ≤ sum_of count es → count (slot_or_vacant (cond b (Some e.1) (lookup test es))) ≤ count e.1 + sum_of count es
      go true more = omega arith
      go false more = omega (arith, more)

-- a slot is written at a place that is there
pub counts_written : {A D : Type 0} (n : ℕ) (old new : BTreeMap ℕ (Slot A D)) (w : Slot A D) → IsSome (lookup (is_at (nat_cmp n)) old.entries) → WritesThrough nat_cmp (nat_cmp n) old w new → CountsAt n old new
counts_written n old new w there wrote = λ count none.
    let set = sum_set count (is_at (nat_cmp n)) old.entries w there in
    let is : sum_of count new.entries ≡ sum_of count (set_value (is_at (nat_cmp n)) old.entries w) = ap (sum_of count) wrote.0 in
    let same : count (slot_at new n) ≡ count w = ap (λ o. count (slot_or_vacant o)) (wrote.3 there).1 in
    omega (arith, set, is, same)

-- a place is made
pub counts_placed : {A D : Type 0} (n : ℕ) (old new : BTreeMap ℕ (Slot A D)) → lookup (is_at (nat_cmp n)) old.entries ≡ None → new.entries ≡ insert_entry nat_cmp old.entries n Vacant → get nat_cmp new n ≡ Some Vacant → CountsAt n old new
counts_placed n old new missing is here = λ count none.
    let placed = sum_place count none n old.entries missing in
    let wrote : sum_of count new.entries ≡ sum_of count (insert_entry nat_cmp old.entries n Vacant) = ap (sum_of count) is in
    let same : count (slot_at new n) ≡ count (slot_at old n) = ap (λ o. count (slot_or_vacant o)) here ∙ sym (ap (λ o. count (slot_or_vacant o)) missing) in
    omega (arith, placed, wrote, same)

-- one change of a slot, and another one
pub counts_then : {A D : Type 0} (n : ℕ) (a b c : BTreeMap ℕ (Slot A D)) → CountsAt n a b → CountsAt n b c → CountsAt n a c
counts_then n a b c first second = λ count none.
    let one = first count none in
    let two = second count none in
    omega (arith, one, two)
