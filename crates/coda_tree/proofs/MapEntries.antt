-- The entries of a finite map in order, against what the map has at their keys.
use Rattle.std.proofs.Common.{◌≡◌, ◌<◌, ◌≤◌, ℕ, zero, suc, true, cond, List, [], ◌∷◌, length, Some, None, Ordering, refl, sym, ap, ◌∙◌, arith}
use Rattle.std.specs.Prelude.{slice_get}
use Rattle.std.specs.declared.cmp.Ordering.TheVariants.{Less, Equal, Greater}
use Rattle.std.specs.Ordering.{is_eq, ordering_reverse}
use Rattle.std.specs.Cmp.{IsTotalOrder}
use Rattle.std.specs.FinMap as map
use Rattle.std.specs.FinMap.{FinMap}
use Rattle.std.specs.FinMap.Entries.{is_sorted, find, below_all}
use Rattle.std.proofs.lemmas.Map.Lookups.{CmpEqualImpliesEq}
use Rattle.std.proofs.lemmas.Option.{same_Some, none-some}
use Rattle.coda_tree.proofs.Booleans.{and_true, lt_less, from_T}
use Rattle.coda_tree.proofs.Order.{at_itself}

-- what stands at an index stands within
pub index_within : {A : Type 0} (l : List A) (i : ℕ) (x : A) → slice_get l i ≡ Some x → i < length l
index_within [] i x is = absurd (none-some x is)
index_within (y ∷ l) zero x is = omega arith
index_within (y ∷ l) (suc i) x is = let rest = index_within l i x is in omega (arith, rest)

-- nothing stands from the length on
pub past_none : {A : Type 0} (l : List A) (i : ℕ) → slice_get l i ≡ None → length l ≤ i
past_none [] i h = omega arith
past_none (y ∷ l) zero h = absurd (none-some y (sym h))
past_none (y ∷ l) (suc i) h = let rest = past_none l i h in omega (arith, rest)

module _ {K X : Type 0} {R : K → K → Ordering} (o : IsTotalOrder R) where
  -- an entry among those above a key is above it
  above : (x : K) (es : List (K × X)) (i : ℕ) (e : K × X) → below_all R x es ≡ true → slice_get es i ≡ Some e → R e.0 x ≡ Greater
  above x [] i e below is = absurd (none-some e is)
  above x (first ∷ es) zero e below is =
      let less : R x e.0 ≡ Less = ap (λ (p : K × X). R x p.0) (sym (same_Some first e is)) ∙ lt_less _ (and_true _ _ below).0 in
      o.antisymm e.0 x ∙ ap ordering_reverse less
  above x (first ∷ es) (suc i) e below is = above x es i e (and_true _ _ below).1 is

  found_among : (es : List (K × X)) (i : ℕ) (e : K × X) → is_sorted R es ≡ true → slice_get es i ≡ Some e → find R e.0 es ≡ Some e.1
  found_among [] i e up is = absurd (none-some e is)
  found_among (first ∷ es) zero e up is =
      let same : first ≡ e = same_Some first e is in
      ap (λ (p : K × X). cond (is_eq (R e.0 p.0)) (Some p.1) (find R e.0 es)) same ∙ at_itself o e.0 (Some e.1) (find R e.0 es)
  found_among (first ∷ es) (suc i) e up is =
      ap (λ r. cond (is_eq r) (Some first.1) (find R e.0 es)) (above first.0 es i e (and_true _ _ up).0 is) ∙ found_among es i e (and_true _ _ up).1 is

  -- the map has each entry's value at its key
  pub get_entry : (m : FinMap R X) (i : ℕ) (e : K × X) → slice_get (map.entries m) i ≡ Some e → map.get m e.0 ≡ Some e.1
  get_entry m i e is = map.get-entries m e.0 ∙ found_among (map.entries m) i e (from_T _ (map.entries_sorted m)) is

  -- a value that is found stands at an index, with a key that ties
  index_among : (es : List (K × X)) (k : K) (v : X) → find R k es ≡ Some v → (i : ℕ) × (e : K × X) × (slice_get es i ≡ Some e) × (R k e.0 ≡ Equal) × (e.1 ≡ v)
  index_among [] k v is = absurd (none-some v is)
  index_among (first ∷ es) k v is =
      elim (R k first.0) as (λ r. R k first.0 ≡ r → cond (is_eq r) (Some first.1) (find R k es) ≡ Some v → (i : ℕ) × (e : K × X) × (slice_get (first ∷ es) i ≡ Some e) × (R k e.0 ≡ Equal) × (e.1 ≡ v)) [
        | Less ↦ λ _ later. let at = index_among es k v later in (suc at.0, at.1, at.2, at.3, at.4)
        | Equal ↦ λ tied here. (0, first, refl, tied, same_Some first.1 v here)
        | Greater ↦ λ _ later. let at = index_among es k v later in (suc at.0, at.1, at.2, at.3, at.4)
      ] refl is

  -- what the map has at a key stands at an index of its entries
  pub entry_index : CmpEqualImpliesEq R → (m : FinMap R X) (k : K) (v : X) → map.get m k ≡ Some v → (i : ℕ) × (slice_get (map.entries m) i ≡ Some (k, v))
  entry_index exact m k v is =
      let at = index_among (map.entries m) k v (sym (map.get-entries m k) ∙ is) in
      let key : at.1.0 ≡ k = sym (exact k at.1.0 at.3) in
      (at.0, at.2 ∙ ap Some (λ j. (key j, at.4 j)))
