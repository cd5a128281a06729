-- What a map by hash keeps as a finite map: how many entries, and which keys in their order.
use Rattle.std.proofs.Common.{◌≡◌, suc, ◌+◌, true, false, cond, ◌||◌, List, [], ◌∷◌, length, Option, Some, is_some, add-one, refl, sym, ap, ◌∙◌, inl, inr}
use Rattle.std.specs.Prelude as prelude
use Rattle.std.specs.Map.{keys_of}
use Rattle.std.specs.List.{list_any, IsDistinct, AllByRecursion}
use Rattle.std.specs.List.Sorted.{IsStrictlySortedBy}
use Rattle.std.specs.Ordering.{eq_by_cmp, is_eq}
use Rattle.std.specs.declared.cmp.Ordering.TheVariants.{Less}
use Rattle.std.specs.FinMap as map
use Rattle.std.specs.FinMap.{FinMap, is_sorted}
use Rattle.std.specs.FinMap.Entries.{below_all}
use Rattle.std.proofs.lemmas.Bool.{false_from_ne_true}
use Rattle.std.proofs.lemmas.Cmp.{tied_itself}
use Rattle.coda_fid.specs.Fid.{fid_cmp, same_fid}
use Rattle.coda_fid.specs.declared.fid.Fid.{Fid}
use Rattle.coda_fid.proofs.Fids.{fids_total, exact_fids, same_fid_refl}
use Rattle.coda_tree.specs.Slots.{keyed}
use Rattle.coda_tree.proofs.Booleans.{and_true, lt_less, from_T}
use Rattle.coda_tree.proofs.Keyed.{kept_at, not_same, get_keyed, absent_none}
use Rattle.coda_tree.proofs.Order.{fid_cases}
use Rattle.coda_tree.proofs.Parents.{tied_fid}
use Rattle.coda_walk.specs.Going.{is_listed}
use Rattle.coda_walk.proofs.Orders.{keys_are}
use Rattle.coda_cache.proofs.Uses.{same_turned}

-- ---- lists of fids

tied_same : (a b : Fid) → eq_by_cmp fid_cmp a b ≡ same_fid a b
tied_same a b = elim (fid_cases a b) [
  | inl at ↦ ap (λ x. eq_by_cmp fid_cmp x b) at ∙ ap is_eq (tied_itself fids_total b) ∙ sym (ap (λ x. same_fid x b) at ∙ same_fid_refl b)
  | inr off ↦ false_from_ne_true _ (λ t. off (tied_fid a b t)) ∙ sym (not_same a b off)
]

listed_tied : (fids : List Fid) (q : Fid) → list_any (λ k. eq_by_cmp fid_cmp k q) fids ≡ is_listed fids q
listed_tied [] q = refl
listed_tied (g ∷ fids) q = λ i. tied_same g q i || listed_tied fids q i

-- a fid is among these by comparing where it is by the test
pub keys_listed : (fids : List Fid) (q : Fid) → list_any (eq_by_cmp fid_cmp q) fids ≡ is_listed fids q
keys_listed [] q = refl
keys_listed (g ∷ fids) q = λ i. (tied_same q g ∙ same_turned q g) i || keys_listed fids q i

module _ {X : Type 0} where
  -- ---- how many

  pub len_hashed : (entries : List (Fid × X)) → IsDistinct same_fid (keys_of entries) → map.len (keyed entries) ≡ length entries
  unfolding IsDistinct
  len_hashed [] s = map.len-empty fid_cmp X
  len_hashed (e ∷ entries) s =
      map.len-insert fids_total (keyed entries) e.0 e.1
      ∙ ap (λ (o : Option X). cond (is_some o) (map.len (keyed entries)) (map.len (keyed entries) + 1)) (get_keyed entries e.0 ∙ absent_none e.0 entries s.0)
      ∙ add-one (map.len (keyed entries)) ∙ ap suc (len_hashed entries s.1)

  -- ---- which keys

  listed_kept : (entries : List (Fid × X)) (q : Fid) → is_listed (keys_of entries) q ≡ is_some (kept_at entries q)
  listed_kept [] q = refl
  listed_kept (e ∷ entries) q = ap (λ b. b || is_listed (keys_of entries) q) (same_turned e.0 q) ∙ elim (same_fid q e.0) as (λ b. (b || is_listed (keys_of entries) q) ≡ is_some (cond b (Some e.1) (kept_at entries q))) [
    | true ↦ refl
    | false ↦ listed_kept entries q
  ]

  -- a key of the entries is one of the finite map
  pub listed_there : (entries : List (Fid × X)) (q : Fid) → is_listed (keys_of entries) q ≡ map.contains_key (keyed entries) q
  listed_there entries q = listed_kept entries q ∙ ap (λ (o : Option X). is_some o) (sym (get_keyed entries q))

  rise_below : (k : Fid) (es : List (Fid × X)) → below_all fid_cmp k es ≡ true → AllByRecursion (λ y. fid_cmp k y ≡ Less) (prelude.map (λ (e : Fid × X). e.0) es)
  rise_below k [] h = tt
  rise_below k (e ∷ es) h = (lt_less _ (and_true _ _ h).0, rise_below k es (and_true _ _ h).1)

  rise_sorted : (es : List (Fid × X)) → is_sorted fid_cmp es ≡ true → IsStrictlySortedBy fid_cmp (prelude.map (λ (e : Fid × X). e.0) es)
  unfolding IsStrictlySortedBy
  rise_sorted [] h = tt
  rise_sorted (e ∷ es) h = (rise_below e.0 es (and_true _ _ h).0, rise_sorted es (and_true _ _ h).1)

  -- keys that rise and are those of the finite map are its keys in their order
  pub keys_rise : (m : FinMap fid_cmp X) (keys : List Fid) → IsStrictlySortedBy fid_cmp keys → ((q : Fid) → list_any (eq_by_cmp fid_cmp q) keys ≡ map.contains_key m q) → keys ≡ map.keys m
  keys_rise m keys rise same =
      let turned : (q : Fid) → list_any (eq_by_cmp fid_cmp q) (map.keys m) ≡ list_any (λ k. eq_by_cmp fid_cmp k q) (map.keys m) = λ q. keys_listed (map.keys m) q ∙ sym (listed_tied (map.keys m) q) in
      keys_are fids_total exact_fids keys (map.keys m) rise (λ q. same q ∙ map.contains_key-keys m q ∙ turned q)
      ∙ sym (keys_are fids_total exact_fids (map.keys m) (map.keys m) (rise_sorted (map.entries m) (from_T _ (map.entries_sorted m))) turned)

  -- the same of the entries
  pub listed_keys : (entries : List (Fid × X)) (q : Fid) → is_listed (keys_of entries) q ≡ is_listed (map.keys (keyed entries)) q
  listed_keys entries q = listed_there entries q ∙ map.contains_key-keys (keyed entries) q ∙ keys_listed (map.keys (keyed entries)) q
