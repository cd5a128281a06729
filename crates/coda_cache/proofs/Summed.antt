-- The blocks of the nodes in a set, as those of the items that pass a test.
use Rattle.std.proofs.Common.{◌≡◌, ℕ, ◌+◌, ◌≤◌, ◌<◌, Bool, true, false, cond, not, ◌||◌, ◌&&◌, List, [], ◌∷◌, refl, sym, ap, ◌∙◌, inl, inr, arith}
use Rattle.std.specs.Prelude as prelude
use Rattle.std.specs.List.{filter, list_any, AllByRecursion, IsDistinct}
use Rattle.std.specs.List.Sorted.{IsStrictlySortedBy}
use Rattle.std.specs.Ordering.{eq_by_cmp}
use Rattle.std.proofs.lemmas.Bool.{both_ways, false_from_ne_true}
use Rattle.std.proofs.lemmas.Map.Keys.{IsDistinct-from_sorted, IsDistinct-head, IsDistinct-tail}
use Rattle.coda_fid.specs.declared.fid.Fid.{Fid}
use Rattle.coda_fid.specs.Fid.{fid_cmp, same_fid}
use Rattle.coda_fid.proofs.Fids.{same_fid_is, same_fid_refl}
use Rattle.coda_walk.specs.declared.item.Item.{Item}
use Rattle.coda_walk.specs.Going.{blocks_of, is_listed}
use Rattle.coda_walk.specs.Laws.{Among}
use Rattle.coda_walk.specs.Queue.{Rises}
use Rattle.coda_cache.proofs.Hashed.{keys_listed}

-- ---- fids that stand once

abbrev pub AreFresh : List Fid → Type 0
AreFresh [] = Unit {0}
AreFresh (f ∷ fids) = (is_listed fids f ≡ false) × AreFresh fids

pub fresh_items : (used : Fid → ℕ) (item : Fid → Item) → ((g : Fid) → (item g).fid ≡ g) → (fids : List Fid) → Rises used (prelude.map item fids) → AreFresh fids
fresh_items used item fid_is [] rises = tt
fresh_items used item fid_is (f ∷ fids) rises = (unlisted fids rises.0, fresh_items used item fid_is fids rises.1)
  where
    unlisted : (some : List Fid) → ((j : Item) → Among j (prelude.map item some) → used (item f).fid < used j.fid) → is_listed some f ≡ false
    unlisted [] less = refl
    unlisted (g ∷ some) less = (elim (same_fid g f) as (λ b. same_fid g f ≡ b → (b || is_listed some f) ≡ false) [
      | true ↦ λ e. let h = less (item g) (inl refl) in let same = ap (λ x. used (item x).fid) (same_fid_is g f e) in absurd (omega (arith, h, same))
      | false ↦ λ _. unlisted some (λ j k. less j (inr k))
    ]) refl

pub fresh_sorted : (fids : List Fid) → IsStrictlySortedBy fid_cmp fids → AreFresh fids
fresh_sorted fids rise = go fids (IsDistinct-from_sorted fid_cmp fids rise)
  where
    none_of : (f : Fid) (some : List Fid) → AllByRecursion (λ y. eq_by_cmp fid_cmp f y ≡ false) some → list_any (eq_by_cmp fid_cmp f) some ≡ false
    none_of f [] all = refl
    none_of f (g ∷ some) all = ap (λ b. b || list_any (eq_by_cmp fid_cmp f) some) all.0 ∙ none_of f some all.1

    go : (fids : List Fid) → IsDistinct (eq_by_cmp fid_cmp) fids → AreFresh fids
    go [] d = tt
    go (f ∷ fids) d = (sym (keys_listed fids f) ∙ none_of f fids (IsDistinct-head (eq_by_cmp fid_cmp) f fids d), go fids (IsDistinct-tail (eq_by_cmp fid_cmp) f fids d))

-- ---- sums

abbrev pub sum_on : (Fid → ℕ) → List Fid → ℕ
sum_on weight [] = 0
sum_on weight (f ∷ fids) = weight f + sum_on weight fids

sum_same : (one other : Fid → ℕ) → ((g : Fid) → one g ≡ other g) → (fids : List Fid) → sum_on one fids ≡ sum_on other fids
sum_same one other same [] = refl
sum_same one other same (f ∷ fids) = λ i. same f i + sum_same one other same fids i

sum_none : (fids : List Fid) → sum_on (λ _. 0) fids ≡ 0
sum_none [] = refl
sum_none (f ∷ fids) = let rest = sum_none fids in omega (arith, rest)

sum_unlisted : (f : Fid) (weight : Fid → ℕ) (fids : List Fid) → is_listed fids f ≡ false → sum_on (λ g. cond (same_fid f g) (weight g) 0) fids ≡ 0
sum_unlisted f weight [] free = refl
sum_unlisted f weight (g ∷ fids) free = (elim (same_fid g f) as (λ b. same_fid g f ≡ b → (b || is_listed fids f) ≡ false → cond (same_fid f g) (weight g) 0 + sum_on (λ h. cond (same_fid f h) (weight h) 0) fids ≡ 0) [
  | true ↦ λ _ h. absurd (both_ways _ h refl)
  | false ↦ λ e h.
      let here : cond (same_fid f g) (weight g) 0 ≡ 0 = ap (λ b. cond b (weight g) 0) (turned e) in
      let rest = sum_unlisted f weight fids h in
      omega (arith, here, rest)
]) refl free
  where
    turned : same_fid g f ≡ false → same_fid f g ≡ false
    turned e = false_from_ne_true _ (λ t. both_ways _ e (ap (same_fid g) (same_fid_is f g t) ∙ same_fid_refl g))

sum_one : (f : Fid) (weight : Fid → ℕ) (fids : List Fid) → AreFresh fids → sum_on (λ g. cond (same_fid f g) (weight g) 0) fids ≡ cond (is_listed fids f) (weight f) 0
sum_one f weight [] fresh = refl
sum_one f weight (g ∷ fids) fresh = (elim (same_fid g f) as (λ b. same_fid g f ≡ b → cond (same_fid f g) (weight g) 0 + sum_on (λ h. cond (same_fid f h) (weight h) 0) fids ≡ cond (b || is_listed fids f) (weight f) 0) [
  | true ↦ λ e.
      let at = same_fid_is g f e in
      let here : cond (same_fid f g) (weight g) 0 ≡ weight f = ap (λ x. cond (same_fid f x) (weight x) 0) at ∙ ap (λ b. cond b (weight f) 0) (same_fid_refl f) in
      let rest = sum_unlisted f weight fids (ap (is_listed fids) (sym at) ∙ fresh.0) in
      omega (arith, here, rest)
  | false ↦ λ e.
      let here : cond (same_fid f g) (weight g) 0 ≡ 0 = ap (λ b. cond b (weight g) 0) (turned e) in
      let rest = sum_one f weight fids fresh.1 in
      omega (arith, here, rest)
]) refl
  where
    turned : same_fid g f ≡ false → same_fid f g ≡ false
    turned e = false_from_ne_true _ (λ t. both_ways _ e (ap (same_fid g) (same_fid_is f g t) ∙ same_fid_refl g))

sum_either : (one other : Fid → Bool) (weight : Fid → ℕ) → ((g : Fid) → one g ≡ true → other g ≡ false) → (fids : List Fid) →
    sum_on (λ g. cond (one g || other g) (weight g) 0) fids ≡ sum_on (λ g. cond (one g) (weight g) 0) fids + sum_on (λ g. cond (other g) (weight g) 0) fids
sum_either one other weight apart [] = refl
sum_either one other weight apart (g ∷ fids) =
    let rest = sum_either one other weight apart fids in
    let here = both (one g) (other g) (apart g) in
    omega (arith, here, rest)
  where
    both : (a b : Bool) → (a ≡ true → b ≡ false) → cond (a || b) (weight g) 0 ≡ cond a (weight g) 0 + cond b (weight g) 0
    both true true h = absurd (both_ways _ (h refl) refl)
    both true false h = omega arith
    both false b h = omega arith

sum_or : (one other : Fid → Bool) (weight : Fid → ℕ) (fids : List Fid) →
    sum_on (λ g. cond (one g || other g) (weight g) 0) fids ≤ sum_on (λ g. cond (one g) (weight g) 0) fids + sum_on (λ g. cond (other g) (weight g) 0) fids
sum_or one other weight [] = omega arith
sum_or one other weight (g ∷ fids) =
    let rest = sum_or one other weight fids in
    let here = both (one g) (other g) in
    omega (arith, here, rest)
  where
    both : (a b : Bool) → cond (a || b) (weight g) 0 ≤ cond a (weight g) 0 + cond b (weight g) 0
    both true b = omega arith
    both false b = omega arith

-- what is in a list, of all, weighs no more than the list
pub sum_among : (weight : Fid → ℕ) (all : List Fid) → AreFresh all → (some : List Fid) → sum_on (λ g. cond (is_listed some g) (weight g) 0) all ≤ sum_on weight some
sum_among weight all fresh [] = let none = sum_none all in omega (arith, none)
sum_among weight all fresh (h ∷ some) =
    let rest = sum_among weight all fresh some in
    let split = sum_or (same_fid h) (is_listed some) weight all in
    let one = sum_one h weight all fresh in
    let own = at_most (is_listed all h) in
    omega (arith, rest, split, one, own)
  where
    at_most : (b : Bool) → cond b (weight h) 0 ≤ weight h
    at_most true = omega arith
    at_most false = omega arith

-- what is in a set, of all
pub sum_within : (weight : Fid → ℕ) (all : List Fid) → AreFresh all → ((g : Fid) → is_listed all g ≡ false → weight g ≡ 0) → (some : List Fid) → AreFresh some → sum_on weight some ≡ sum_on (λ g. cond (is_listed some g) (weight g) 0) all
sum_within weight all fresh none [] f = sym (sum_none all)
sum_within weight all fresh none (h ∷ some) f =
    let rest = sum_within weight all fresh none some f.1 in
    let split = sum_either (same_fid h) (is_listed some) weight (λ g t. ap (is_listed some) (sym (same_fid_is h g t)) ∙ f.0) all in
    let one = sum_one h weight all fresh in
    let own = here (is_listed all h) refl in
    omega (arith, rest, split, one, own)
  where
    here : (b : Bool) → is_listed all h ≡ b → cond (is_listed all h) (weight h) 0 ≡ weight h
    here true e = ap (λ b. cond b (weight h) 0) e
    here false e = ap (λ b. cond b (weight h) 0) e ∙ sym (none h e)

-- the blocks of items that pass
sum_passing : (item : Fid → Item) (test : Item → Bool) (fids : List Fid) → blocks_of (filter test (prelude.map item fids)) ≡ sum_on (λ g. cond (test (item g)) (item g).blocks 0) fids
sum_passing item test [] = refl
sum_passing item test (g ∷ fids) =
    let rest = sum_passing item test fids in
    elim (test (item g)) as (λ b. blocks_of (cond b (item g ∷ filter test (prelude.map item fids)) (filter test (prelude.map item fids))) ≡ cond b (item g).blocks 0 + sum_on (λ g. cond (test (item g)) (item g).blocks 0) fids) [
      | true ↦ omega (arith, rest)
      | false ↦ omega (arith, rest)
    ]

pub sum_in : (item : Fid → Item) (test : Item → Bool) (but : Fid → Bool) (all some : List Fid) → AreFresh all → AreFresh some → ((g : Fid) → is_listed all g ≡ false → (item g).blocks ≡ 0) →
    ((g : Fid) → test (item g) ≡ (is_listed some g && not (but g))) → sum_on (λ g. cond (but g) 0 (item g).blocks) some ≡ blocks_of (filter test (prelude.map item all))
sum_in item test but all some fresh f none passes =
    sum_within (λ g. cond (but g) 0 (item g).blocks) all fresh (λ g free. ap (λ n. cond (but g) 0 n) (none g free) ∙ either (but g)) some f
    ∙ sum_same _ (λ g. cond (test (item g)) (item g).blocks 0) (λ g. both (is_listed some g) (but g) (item g).blocks ∙ ap (λ b. cond b (item g).blocks 0) (sym (passes g))) all
    ∙ sym (sum_passing item test all)
  where
    either : (b : Bool) → cond {A = ℕ} b 0 0 ≡ 0
    either true = refl
    either false = refl

    both : (a b : Bool) (n : ℕ) → cond a (cond b 0 n) 0 ≡ cond (a && not b) n 0
    both true true n = refl
    both true false n = refl
    both false b n = refl
