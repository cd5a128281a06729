-- The keys of an ordered set are those of a list in their order.
use Rattle.std.proofs.Common.{◌≡◌, ℕ, Bool, true, false, cond, ◌&&◌, ◌||◌, List, [], ◌∷◌, Option, Some, None, is_some, refl, sym, ap, ◌∙◌, subst}
use Rattle.std.specs.Prelude as prelude
use Rattle.std.specs.List.{list_any, AllByRecursion}
use Rattle.std.specs.List.Sorted.{IsStrictlySortedBy}
use Rattle.std.specs.Ordering.{is_lt, is_eq, eq_by_cmp, ordering_reverse}
use Rattle.std.specs.declared.cmp.Ordering.{Ordering}
use Rattle.std.specs.declared.cmp.Ordering.TheVariants.{Less, Equal, Greater}
use Rattle.std.specs.Cmp.{IsTotalOrder}
use Rattle.std.specs.FinMap as map
use Rattle.std.specs.FinMap.{is_sorted, find}
use Rattle.std.specs.FinMap.Entries.{below_all}
use Rattle.std.specs.Prelude.{T}
use Rattle.std.specs.Ordering.{nat_cmp}
use Rattle.std.proofs.lemmas.Cmp.{then_total, on_total, back_total, nat_cmp_total}
use Rattle.std.proofs.lemmas.Map.Lookups.{exact_pairs, exact_unsigned}
use Rattle.coda_fid.specs.declared.fid.Fid.{Fid}
use Rattle.coda_fid.specs.Fid.{fid_cmp}
use Rattle.coda_fid.proofs.Fids.{fids_total, exact_fids}
use Rattle.coda_walk.specs.declared.candidate.Candidate.{Candidate}
use Rattle.coda_walk.specs.declared.candidate.Place.{Place}
use Rattle.coda_walk.specs.Planning.{in_order, marked, candidate_cmp, place_cmp}

module _ {K : Type 0} (R : K → K → Ordering) where
  below_marked : (k : K) (ks : List K) → AllByRecursion (λ y. R k y ≡ Less) ks → below_all R k (marked ks) ≡ true
  below_marked k [] h = refl
  below_marked k (x ∷ ks) h = ap (λ r. is_lt r && below_all R k (marked ks)) h.0 ∙ below_marked k ks h.1

  sorted_marked : (ks : List K) → IsStrictlySortedBy R ks → is_sorted R (marked ks) ≡ true
  unfolding IsStrictlySortedBy
  sorted_marked [] h = refl
  sorted_marked (k ∷ ks) h = ap (λ b. b && is_sorted R (marked ks)) (below_marked k ks h.0) ∙ sorted_marked ks h.1

  pub keys_marked : (ks : List K) → prelude.map (λ (e : K × Unit {0}). e.0) (marked ks) ≡ ks
  keys_marked [] = refl
  keys_marked (k ∷ ks) = ap (λ l. k ∷ l) (keys_marked ks)

  found_marked : (ks : List K) (q : K) → find R q (marked ks) ≡ cond (list_any (eq_by_cmp R q) ks) (Some tt) None
  found_marked [] q = refl
  found_marked (k ∷ ks) q = elim (eq_by_cmp R q k) as (λ b. cond b (Some tt) (find R q (marked ks)) ≡ cond (b || list_any (eq_by_cmp R q) ks) (Some tt) None) [
    | true ↦ refl
    | false ↦ found_marked ks q
  ]

module _ {K : Type 0} {R : K → K → Ordering} (o : IsTotalOrder R) where
  tied_turned : (x y : K) → eq_by_cmp R x y ≡ eq_by_cmp R y x
  tied_turned x y = ap is_eq (o.antisymm x y) ∙ turned (R y x)
    where
      turned : (r : Ordering) → is_eq (ordering_reverse r) ≡ is_eq r
      turned Less = refl
      turned Equal = refl
      turned Greater = refl

  any_turned : (ks : List K) (q : K) → list_any (eq_by_cmp R q) ks ≡ list_any (λ k. eq_by_cmp R k q) ks
  any_turned [] q = refl
  any_turned (k ∷ ks) q = ap (λ b. b || list_any (eq_by_cmp R q) ks) (tied_turned q k) ∙ ap (λ b. eq_by_cmp R k q || b) (any_turned ks q)

  -- keys that rise and are those of a list are its keys in order
  pub keys_are : map.IsAntisymmetric R → (ks js : List K) → IsStrictlySortedBy R ks → ((q : K) → list_any (eq_by_cmp R q) ks ≡ list_any (λ k. eq_by_cmp R k q) js) → ks ≡ in_order R js
  keys_are exact ks js rise same =
      sym (ap (λ (l : List (K × Unit {0})). prelude.map (λ (e : K × Unit {0}). e.0) l) (map.entries-from_sorted R (marked ks) sorted) ∙ keys_marked R ks)
      ∙ ap (λ (m : map.FinMap R (Unit {0})). map.keys m) (map.same_map o exact (map.from_sorted (marked ks)) (map.from_entries (marked js)) alike)
    where
      sorted : T (is_sorted R (marked ks))
      sorted = subst T (sym (sorted_marked R ks rise)) tt

      alike : (q : K) → map.get (map.from_sorted {R = R} (marked ks)) q ≡ map.get (map.from_entries {R = R} (marked js)) q
      alike q =
          map.get-from_sorted R (marked ks) q sorted ∙ found_marked R ks q ∙ ap (λ (b : Bool). cond b (Some tt) None) (same q ∙ sym (any_turned js q))
          ∙ sym (map.get-from_entries o (marked js) q ∙ found_marked R js q)

  -- the keys of a list in order are those of the list
  pub keys_exact : (ks : List K) (q : K) → list_any (eq_by_cmp R q) (in_order R ks) ≡ list_any (eq_by_cmp R q) ks
  keys_exact ks q = sym (map.contains_key-keys (map.from_entries {R = R} (marked ks)) q) ∙ ap (λ (u : Option (Unit {0})). is_some u) (map.get-from_entries o (marked ks) q ∙ found_marked R ks q) ∙ some (list_any (eq_by_cmp R q) ks)
    where
      some : (b : Bool) → is_some (cond {A = Option (Unit {0})} b (Some tt) None) ≡ b
      some true = refl
      some false = refl

-- ---- candidates and places

pub candidates_total : IsTotalOrder candidate_cmp
candidates_total = then_total (on_total (λ (c : Candidate). c.priority.0) (back_total nat_cmp_total)) (on_total (λ (c : Candidate). c.fid) fids_total)

pub exact_candidates : map.IsAntisymmetric candidate_cmp
exact_candidates a b h =
    ap (λ (p : ℕ × Fid). let c : Candidate = record { priority = record { 0 = p.0 }; fid = p.1 } in c)
    (exact_pairs (λ x y. nat_cmp y x) fid_cmp (λ x y e. sym (exact_unsigned y x e)) exact_fids (a.priority.0, a.fid) (b.priority.0, b.fid) h)

pub places_total : IsTotalOrder place_cmp
places_total = then_total (on_total (λ (p : Place). p.depth) nat_cmp_total) (on_total (λ (p : Place). p.fid) fids_total)

pub exact_places : map.IsAntisymmetric place_cmp
exact_places a b h =
    ap (λ (p : ℕ × Fid). let q : Place = record { depth = p.0; fid = p.1 } in q)
    (exact_pairs nat_cmp fid_cmp exact_unsigned exact_fids (a.depth, a.fid) (b.depth, b.fid) h)
