-- How many nodes are held, and whether one is held under another.
use Rattle.std.proofs.Common.{◌≡◌, ◌≢◌, ◌+◌, Bool, true, false, cond, ◌||◌, List, [], ◌∷◌, Option, Some, None, is_some, refl, sym, ap, ◌∙◌, inl, inr}
use Rattle.std.specs.Prelude as prelude
use Rattle.std.specs.List.{list_any, IsDistinct}
use Rattle.std.specs.Map.{keys_of}
use Rattle.std.specs.Ordering.{eq_by_cmp}
use Rattle.std.specs.FinMap as map
use Rattle.std.specs.FinMap.{FinMap, find}
use Rattle.std.proofs.lemmas.Bool.{both_ways}
use Rattle.std.proofs.lemmas.Option.{none-some}
use Rattle.coda_fid.specs.declared.fid.Fid.{Fid}
use Rattle.coda_fid.specs.Fid.{fid_cmp, same_fid}
use Rattle.coda_fid.proofs.Fids.{fids_total, exact_fids, same_fid_is, same_fid_refl}
use Rattle.coda_tree.specs.Slots.{keyed}
use Rattle.coda_tree.proofs.Keyed.{kept_at, changed_here, changed_else, absent_none}
use Rattle.coda_tree.proofs.Order.{fid_cases}
use Rattle.coda_walk.specs.Going.{is_listed}
use Rattle.coda_cache.specs.declared.hold.Hold.{Hold}
use Rattle.coda_cache.specs.State.{parent_held}
use Rattle.coda_cache.specs.Indexed.{is_parent}
use Rattle.coda_cache.proofs.Down.{is_parent_is}

-- ---- maps with the same keys

abbrev marked : {X : Type 0} → List (Fid × X) → List (Fid × Bool)
marked entries = prelude.map (λ e. (e.0, true)) entries

module _ {X : Type 0} where
  find_marked : (entries : List (Fid × X)) (q : Fid) → find fid_cmp q (marked entries) ≡ cond (is_some (find fid_cmp q entries)) (Some true) None
  find_marked [] q = refl
  find_marked (e ∷ entries) q = elim (eq_by_cmp fid_cmp q e.0) as (λ b. cond b (Some true) (find fid_cmp q (marked entries)) ≡ cond (is_some (cond b (Some e.1) (find fid_cmp q entries))) (Some true) None) [
    | true ↦ refl
    | false ↦ find_marked entries q
  ]

  is_marked : (o : Option X) → is_some (cond (is_some o) (Some true) None) ≡ is_some o
  is_marked None = refl
  is_marked (Some x) = refl

  len_marked : (entries : List (Fid × X)) → map.len (keyed (marked entries)) ≡ map.len (keyed entries)
  len_marked [] = map.len-empty fid_cmp Bool ∙ sym (map.len-empty fid_cmp X)
  len_marked (e ∷ entries) =
      let there : is_some (map.get (keyed (marked entries)) e.0) ≡ is_some (map.get (keyed entries) e.0) =
      ap (λ (o : Option Bool). is_some o) (map.get-from_entries fids_total (marked entries) e.0 ∙ find_marked entries e.0) ∙ is_marked (find fid_cmp e.0 entries)
      ∙ sym (ap (λ (o : Option X). is_some o) (map.get-from_entries fids_total entries e.0)) in
      map.len-insert fids_total (keyed (marked entries)) e.0 true
      ∙ (λ i. cond (there i) (len_marked entries i) (len_marked entries i + 1))
      ∙ sym (map.len-insert fids_total (keyed entries) e.0 e.1)

  len_again : (m : FinMap fid_cmp X) → map.len (keyed (map.entries m)) ≡ map.len m
  len_again m =
      let same = map.same_map fids_total exact_fids (keyed (map.entries m)) m (λ q. map.get-from_entries fids_total (map.entries m) q ∙ sym (map.get-entries m q)) in
      ap (λ (n : FinMap fid_cmp X). map.len n) same

  marked_there : (m : FinMap fid_cmp X) (q : Fid) → map.get (keyed (marked (map.entries m))) q ≡ cond (map.contains_key m q) (Some true) None
  marked_there m q = map.get-from_entries fids_total (marked (map.entries m)) q ∙ find_marked (map.entries m) q ∙ ap (λ (o : Option X). cond (is_some o) (Some true) None) (sym (map.get-entries m q))

-- maps with the same keys have as many entries
pub as_many : {X Y : Type 0} (m : FinMap fid_cmp X) (n : FinMap fid_cmp Y) → ((q : Fid) → map.contains_key m q ≡ map.contains_key n q) → map.len m ≡ map.len n
as_many m n same =
    sym (len_marked (map.entries m) ∙ len_again m)
    ∙ ap (λ (k : FinMap fid_cmp Bool). map.len k) (map.same_map fids_total exact_fids (keyed (marked (map.entries m))) (keyed (marked (map.entries n)))
    (λ q. marked_there m q ∙ ap (λ b. cond b (Some true) None) (same q) ∙ sym (marked_there n q)))
    ∙ len_marked (map.entries n) ∙ len_again n

-- ---- a node under a directory

first_false : (a b : Bool) → (a || b) ≡ false → a ≡ false
first_false true b h = h
first_false false b h = refl

second_false : (a b : Bool) → (a || b) ≡ false → b ≡ false
second_false true b h = absurd (both_ways _ h refl)
second_false false b h = h

-- the directory is the parent that it is
parent_is : (dir : Fid) (parent : Option Fid) → parent ≡ Some dir → is_parent dir parent ≡ true
parent_is dir parent is = ap (is_parent dir) is ∙ same_fid_refl dir

pub some_passes : (test : Fid → Bool) (fids : List Fid) → list_any test fids ≡ true → (f : Fid) × (test f ≡ true)
some_passes test [] h = absurd (both_ways _ refl h)
some_passes test (g ∷ fids) h = (elim (test g) as (λ b. test g ≡ b → (b || list_any test fids) ≡ true → (f : Fid) × (test f ≡ true)) [
  | true ↦ λ is _. (g, is)
  | false ↦ λ _ rest. some_passes test fids rest
]) refl h

pub none_passes : (test : Fid → Bool) (fids : List Fid) → list_any test fids ≡ false → (f : Fid) → is_listed fids f ≡ true → test f ≡ false
none_passes test [] h f there = absurd (both_ways _ refl there)
none_passes test (g ∷ fids) h f there = (elim (same_fid g f) as (λ b. same_fid g f ≡ b → (b || is_listed fids f) ≡ true → test f ≡ false) [
  | true ↦ λ is _. ap test (sym (same_fid_is g f is)) ∙ first_false (test g) (list_any test fids) h
  | false ↦ λ _ rest. none_passes test fids (second_false (test g) (list_any test fids) h) f rest
]) refl there

-- one of these has the directory for its parent
pub one_under : (parent : Fid → Option Fid) (dir : Fid) (fids : List Fid) → list_any (λ f. is_parent dir (parent f)) fids ≡ true → (f : Fid) × (parent f ≡ Some dir)
one_under parent dir fids h = let one = some_passes (λ f. is_parent dir (parent f)) fids h in (one.0, is_parent_is dir (parent one.0) one.1)

-- none of these has, nor has any other
pub none_under : (parent : Fid → Option Fid) (dir : Fid) (fids : List Fid) → list_any (λ f. is_parent dir (parent f)) fids ≡ false → ((f : Fid) → parent f ≡ Some dir → is_listed fids f ≡ true) → (f : Fid) → parent f ≢ Some dir
none_under parent dir fids h all f is = both_ways _ (none_passes (λ g. is_parent dir (parent g)) fids h f (all f is)) (parent_is dir (parent f) is)

-- one of these holds is under the directory
pub one_held_under : (holds : List (Fid × Hold)) (dir : Fid) → IsDistinct same_fid (keys_of holds) → list_any (λ e. is_parent dir e.1.parent) holds ≡ true → (f : Fid) × (parent_held (kept_at holds f) ≡ Some dir)
unfolding IsDistinct
one_held_under [] dir distinct h = absurd (both_ways _ refl h)
one_held_under (e ∷ holds) dir distinct h = (elim (is_parent dir e.1.parent) as (λ b. is_parent dir e.1.parent ≡ b → (b || list_any (λ e. is_parent dir e.1.parent) holds) ≡ true → (f : Fid) × (parent_held (kept_at (e ∷ holds) f) ≡ Some dir)) [
  | true ↦ λ is _. (e.0, ap parent_held (changed_here e.0 (Some e.1) (kept_at holds e.0)) ∙ is_parent_is dir e.1.parent is)
  | false ↦ λ _ rest. let one = one_held_under holds dir distinct.1 rest in elim (fid_cases one.0 e.0) [
    | inl at ↦ absurd (none-some dir (sym (ap parent_held (ap (kept_at holds) at ∙ absent_none e.0 holds distinct.0)) ∙ one.1))
    | inr off ↦ (one.0, ap parent_held (changed_else one.0 e.0 (Some e.1) (kept_at holds one.0) (λ at. off (sym at))) ∙ one.1)
  ]
]) refl h

-- none of these holds is
pub none_held_under : (holds : List (Fid × Hold)) (dir : Fid) → list_any (λ e. is_parent dir e.1.parent) holds ≡ false → (f : Fid) → parent_held (kept_at holds f) ≢ Some dir
none_held_under [] dir h f is = none-some dir is
none_held_under (e ∷ holds) dir h f is = elim (fid_cases f e.0) [
  | inl at ↦ both_ways _ (first_false (is_parent dir e.1.parent) _ h)
      (parent_is dir e.1.parent (sym (ap parent_held (ap (kept_at (e ∷ holds)) at ∙ changed_here e.0 (Some e.1) (kept_at holds e.0))) ∙ is))
  | inr off ↦ none_held_under holds dir (second_false (is_parent dir e.1.parent) _ h) f (sym (ap parent_held (changed_else f e.0 (Some e.1) (kept_at holds f) (λ at. off (sym at)))) ∙ is)
]
