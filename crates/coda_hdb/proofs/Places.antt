-- The map of places, as the list of its entries.
use Rattle.std.proofs.Common.{◌≡◌, ◌≤◌, ◌<◌, ℕ, Bool, true, false, cond, ◌&&◌, ◌||◌, ◌==◌, List, [], ◌∷◌, length, ◌⊎◌, inl, inr, Option, Some, is_some, refl, sym, ap, subst, ◌∙◌, arith}
use Rattle.std.specs.Prelude.{nat_eq, nat_lt}
use Rattle.std.specs.Cmp.Lexicographic.{pointwise, same_text}
use Rattle.std.specs.Map.{values_of, lookup}
use Rattle.std.proofs.lemmas.Bool.{ltb-true, and_parts, eqb-true}
use Rattle.indexmap.specs.IndexMap.{insert_entry, shift_remove_entry}
use Rattle.coda_hdb.specs.declared.entry.HdbEntry.{HdbEntry}
use Rattle.coda_hdb.specs.Database.{is_at, has_place, AreDistinct, put, without}
use Rattle.coda_hdb.specs.Kept.{Place, IsPlaceOf, ArePlaced, AreKept}
use Rattle.coda_hdb.proofs.Orders.{put_first, put_is, distinct_put, take_first, take_is, distinct_taken, length-taken, few_put}

-- whether two places are one
abbrev pub same_place : Place → Place → Bool
same_place a b = (a.0 == b.0) && pointwise nat_eq a.1.items b.1.items

module _ (k : Place) (volume : ℕ) (path : List (List ℕ)) (of : IsPlaceOf k volume path) where
  at_eq : (e : Place × HdbEntry) → IsPlaceOf e.0 e.1.volume e.1.path → same_place k e.0 ≡ is_at volume path e.1
  at_eq e h = (λ i. (of.0 i == h.0 i) && pointwise nat_eq (of.1 i) (h.1 i))

  either : (b : Bool) (x : HdbEntry) (o : Option HdbEntry) → is_some (cond b (Some x) o) ≡ (b || is_some o)
  either true x o = refl
  either false x o = refl

  pub looked : (pairs : List (Place × HdbEntry)) → ArePlaced pairs → is_some (lookup (same_place k) pairs) ≡ has_place (values_of pairs) volume path
  looked [] p = refl
  looked (e ∷ es) p = either (same_place k e.0) e.1 (lookup (same_place k) es) ∙ (λ i. at_eq e p.0 i || looked es p.1 i)

  removed_is : (pairs : List (Place × HdbEntry)) → ArePlaced pairs → values_of (shift_remove_entry (same_place k) pairs) ≡ take_first (values_of pairs) volume path
  removed_is [] p = refl
  removed_is (e ∷ es) p =
      ap (λ b. values_of (cond b es (e ∷ shift_remove_entry (same_place k) es))) (at_eq e p.0)
      ∙ elim (is_at volume path e.1) as (λ b. values_of (cond b es (e ∷ shift_remove_entry (same_place k) es)) ≡ cond b (values_of es) (e.1 ∷ take_first (values_of es) volume path)) [
        | true ↦ refl
        | false ↦ ap (λ l. e.1 ∷ l) (removed_is es p.1)
      ]

  removed_placed : (pairs : List (Place × HdbEntry)) → ArePlaced pairs → ArePlaced (shift_remove_entry (same_place k) pairs)
  removed_placed [] p = tt
  removed_placed (e ∷ es) p = elim (same_place k e.0) as (λ b. ArePlaced (cond b es (e ∷ shift_remove_entry (same_place k) es))) [
    | true ↦ p.1
    | false ↦ (p.0, removed_placed es p.1)
  ]

  pub taken : (pairs : List (Place × HdbEntry)) → AreKept pairs → values_of (shift_remove_entry (same_place k) pairs) ≡ without (values_of pairs) volume path
  taken pairs kept = removed_is pairs kept.placed ∙ take_is (values_of pairs) volume path kept.distinct

  pub kept_taken : (pairs : List (Place × HdbEntry)) → AreKept pairs → AreKept (shift_remove_entry (same_place k) pairs)
  kept_taken pairs kept = record {
    placed = removed_placed pairs kept.placed;
    distinct = subst AreDistinct (sym (removed_is pairs kept.placed)) (distinct_taken (values_of pairs) volume path kept.distinct);
    few = let less = length-taken (values_of pairs) volume path in let old = kept.few in subst (λ (l : List HdbEntry). length l ≤ 1024) (sym (removed_is pairs kept.placed)) (omega arith);
  }

module _ (k : Place) (entry : HdbEntry) (of : IsPlaceOf k entry.volume entry.path) where
  inserted_is : (pairs : List (Place × HdbEntry)) → ArePlaced pairs → values_of (insert_entry same_place pairs k entry) ≡ put_first (values_of pairs) entry
  inserted_is [] p = refl
  inserted_is (e ∷ es) p =
      ap (λ b. values_of (cond b ((e.0, entry) ∷ es) (e ∷ insert_entry same_place es k entry))) (at_eq k entry.volume entry.path of e p.0)
      ∙ elim (is_at entry.volume entry.path e.1) as (λ b. values_of (cond b ((e.0, entry) ∷ es) (e ∷ insert_entry same_place es k entry)) ≡ cond b (entry ∷ values_of es) (e.1 ∷ put_first (values_of es) entry)) [
        | true ↦ refl
        | false ↦ ap (λ l. e.1 ∷ l) (inserted_is es p.1)
      ]

  inserted_placed : (pairs : List (Place × HdbEntry)) → ArePlaced pairs → ArePlaced (insert_entry same_place pairs k entry)
  inserted_placed [] p = (of, tt)
  inserted_placed (e ∷ es) p = elim (same_place k e.0) as (λ b. same_place k e.0 ≡ b → ArePlaced (cond b ((e.0, entry) ∷ es) (e ∷ insert_entry same_place es k entry))) [
    | true ↦ λ is. (here is, p.1)
    | false ↦ λ _. (p.0, inserted_placed es p.1)
  ] refl
    where
      here : same_place k e.0 ≡ true → IsPlaceOf e.0 entry.volume entry.path
      here is =
          let parts = and_parts (k.0 == e.0.0) (pointwise nat_eq k.1.items e.0.1.items) is in
          (sym (eqb-true k.0 e.0.0 parts.0) ∙ of.0, sym (same_text k.1.items e.0.1.items (sym parts.1)) ∙ of.1)

  pub stored : (pairs : List (Place × HdbEntry)) → AreKept pairs → values_of (insert_entry same_place pairs k entry) ≡ put (values_of pairs) entry
  stored pairs kept = inserted_is pairs kept.placed ∙ put_is (values_of pairs) entry kept.distinct

  pub kept_stored : (pairs : List (Place × HdbEntry)) → AreKept pairs → (nat_lt (length (values_of pairs)) 1024 || has_place (values_of pairs) entry.volume entry.path) ≡ true → AreKept (insert_entry same_place pairs k entry)
  kept_stored pairs kept room = record {
    placed = inserted_placed pairs kept.placed;
    distinct = subst AreDistinct (sym (inserted_is pairs kept.placed)) (distinct_put (values_of pairs) entry kept.distinct);
    few = subst (λ (l : List HdbEntry). length l ≤ 1024) (sym (stored pairs kept)) (few_put (values_of pairs) entry (by (nat_lt (length (values_of pairs)) 1024) refl room) kept.few);
  }
    where
      by : (b : Bool) → nat_lt (length (values_of pairs)) 1024 ≡ b → (b || has_place (values_of pairs) entry.volume entry.path) ≡ true → (has_place (values_of pairs) entry.volume entry.path ≡ true) ⊎ (length (values_of pairs) < 1024)
      by true is _ = inr (ltb-true (length (values_of pairs)) 1024 is)
      by false _ h = inl h
