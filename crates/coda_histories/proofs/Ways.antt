-- The ways up of what a client holds: they end where each parent stands less deep, and what is left where an object goes with all below it.
use Rattle.std.proofs.Common.{◌≡◌, ◌≢◌, ℕ, zero, suc, ◌<◌, ◌≤◌, Bool, true, false, cond, ◌||◌, List, [], ◌∷◌, length, Option, Some, None, IsSome, is_some, refl, sym, ap, ◌∙◌, subst, inl, inr, ◌⊎◌, arith}
use Rattle.std.specs.Prelude.{not}
use Rattle.std.specs.List.{list_any, AllByRecursion, IsDistinct}
use Rattle.std.specs.Map.{lookup}
use Rattle.std.specs.Option.{option_map_or}
use Rattle.std.specs.Ordering.{eq_by_cmp}
use Rattle.std.specs.FinMap as map
use Rattle.std.specs.FinMap.{FinMap, find}
use Rattle.std.proofs.lemmas.Bool.{both_ways, false≢true}
use Rattle.std.proofs.lemmas.Option.{none-some}
use Rattle.std.proofs.lemmas.Cmp.{eq_by_cmp_equiv}
use Rattle.std.proofs.lemmas.Map.Steps.{length-le_from_keys}
use Rattle.coda_fid.specs.Fid.{fid_cmp, same_fid}
use Rattle.coda_fid.specs.declared.fid.Fid.{Fid}
use Rattle.coda_fid.proofs.Fids.{fids_total, exact_fids, same_fid_is, same_fid_refl}
use Rattle.coda_tree.specs.Volume.{Nodes, has}
use Rattle.coda_tree.proofs.Booleans.{has_some}
use Rattle.coda_tree.proofs.Parents.{tied_fid}
use Rattle.coda_cancel.proofs.Keys.{fid_other}
use Rattle.coda_cache.specs.Parents.{below_within}
use Rattle.coda_venus.specs.Held.{Parents, is_below, stays}

pub some_fid : (x y : Fid) → Some x ≡ Some y → x ≡ y
some_fid x y e = cc

-- ---- whether a way up goes on

-- whether so many steps can be gone up from an object
abbrev climbs : Parents → ℕ → Fid → Bool
climbs parents zero f = true
climbs parents (suc steps) f = option_map_or (λ p. climbs parents steps p) (map.get parents f) false

-- the objects from which these steps are gone
abbrev steps_up : Parents → ℕ → Fid → List Fid
steps_up parents zero f = []
steps_up parents (suc steps) f = f ∷ option_map_or (λ p. steps_up parents steps p) (map.get parents f) []

-- whether a fid is among others, by comparing
abbrev among : List Fid → Fid → Bool
among fids q = list_any (eq_by_cmp fid_cmp q) fids

apart_from : (x : Fid) (xs : List Fid) → among xs x ≡ false → AllByRecursion (λ y. eq_by_cmp fid_cmp x y ≡ false) xs
apart_from x [] h = tt
apart_from x (y ∷ xs) h = (elim (eq_by_cmp fid_cmp x y) as (λ b. eq_by_cmp fid_cmp x y ≡ b → (b || among xs x) ≡ false → AllByRecursion (λ y. eq_by_cmp fid_cmp x y ≡ false) (y ∷ xs)) [
  | true ↦ λ e k. absurd (both_ways _ k refl)
  | false ↦ λ e k. (e, apart_from x xs k)
]) refl h

find_lookup : (es : List (Fid × Fid)) (q : Fid) → find fid_cmp q es ≡ lookup (eq_by_cmp fid_cmp q) es
find_lookup [] q = refl
find_lookup (e ∷ es) q = ap (cond (eq_by_cmp fid_cmp q e.0) (Some e.1)) (find_lookup es q)

module _ (parents : Parents) (depth : Fid → ℕ) (deeper : (f p : Fid) → map.get parents f ≡ Some p → depth p < depth f) where
  falls : (n : ℕ) (f q : Fid) → among (steps_up parents n f) q ≡ true → depth q ≤ depth f
  falls zero f q h = absurd (both_ways _ refl h)
  falls (suc n) f q h = (elim (eq_by_cmp fid_cmp q f) as (λ b. eq_by_cmp fid_cmp q f ≡ b → (b || among (option_map_or (λ p. steps_up parents n p) (map.get parents f) []) q) ≡ true → depth q ≤ depth f) [
    | true ↦ λ e _. let same = ap depth (tied_fid q f e) in omega (arith, same)
    | false ↦ λ e rest. (elim (map.get parents f) as (λ o. map.get parents f ≡ o → among (option_map_or (λ p. steps_up parents n p) o []) q ≡ true → depth q ≤ depth f) [
      | None ↦ λ is r. absurd (both_ways _ refl r)
      | Some p ↦ λ is r. let less = deeper f p is in let more = falls n p q r in omega (arith, less, more)
    ]) refl rest
  ]) refl h

  distinct : (n : ℕ) (f : Fid) → IsDistinct (eq_by_cmp fid_cmp) (steps_up parents n f)
  unfolding IsDistinct
  distinct zero f = tt
  distinct (suc n) f = (elim (map.get parents f) as (λ o. map.get parents f ≡ o → IsDistinct (eq_by_cmp fid_cmp) (f ∷ option_map_or (λ p. steps_up parents n p) o [])) [
    | None ↦ λ is. (tt, tt)
    | Some p ↦ λ is. (
      apart_from f (steps_up parents n p) ((elim (among (steps_up parents n p) f) as (λ b. among (steps_up parents n p) f ≡ b → b ≡ false) [
        | true ↦ λ h. let less = deeper f p is in let more = falls n p f h in absurd (omega (arith, less, more))
        | false ↦ λ _. refl
      ]) refl),
      distinct n p,
    )
  ]) refl

  -- where the steps can be gone, each is gone from an object that has a parent
  all_keys : (n : ℕ) (f q : Fid) → climbs parents n f ≡ true → among (steps_up parents n f) q ≡ true → IsSome (map.get parents q)
  all_keys zero f q goes h = absurd (both_ways _ refl h)
  all_keys (suc n) f q goes h = (elim (map.get parents f) as (λ o. map.get parents f ≡ o → option_map_or (λ p. climbs parents n p) o false ≡ true
      → (eq_by_cmp fid_cmp q f || among (option_map_or (λ p. steps_up parents n p) o []) q) ≡ true → IsSome (map.get parents q)) [
        | None ↦ λ is no _. absurd (both_ways _ refl no)
        | Some p ↦ λ is on rest. (elim (eq_by_cmp fid_cmp q f) as (λ b. eq_by_cmp fid_cmp q f ≡ b → (b || among (steps_up parents n p) q) ≡ true → IsSome (map.get parents q)) [
          | true ↦ λ e _. has_some (map.get parents q) (ap is_some (ap (map.get parents) (tied_fid q f e) ∙ is))
          | false ↦ λ e r. all_keys n p q on r
        ]) refl rest
      ]) refl goes h

  count : (n : ℕ) (f : Fid) → climbs parents n f ≡ true → length (steps_up parents n f) ≡ n
  count zero f goes = refl
  count (suc n) f goes = (elim (map.get parents f) as (λ o. option_map_or (λ p. climbs parents n p) o false ≡ true → length (f ∷ option_map_or (λ p. steps_up parents n p) o []) ≡ suc n) [
    | None ↦ λ no. absurd (both_ways _ refl no)
    | Some p ↦ λ on. ap suc (count n p on)
  ]) goes

  -- no way up has more steps than there are parents
  few : (n : ℕ) (f : Fid) → climbs parents n f ≡ true → n ≤ map.len parents
  few n f goes =
      let few = length-le_from_keys (eq_by_cmp_equiv fids_total) (steps_up parents n f) (map.entries parents) (distinct n f)
      (λ q h. subst IsSome (map.get-entries parents q ∙ find_lookup (map.entries parents) q) (all_keys n f q goes h)) in
      let long = count n f goes in
      omega (arith, few, long, map.len-entries parents)

  ends : (f : Fid) → climbs parents (suc (map.len parents)) f ≡ false
  ends f = (elim (climbs parents (suc (map.len parents)) f) as (λ b. climbs parents (suc (map.len parents)) f ≡ b → b ≡ false) [
    | true ↦ λ goes. let most = few (suc (map.len parents)) f goes in absurd (omega (arith, most))
    | false ↦ λ _. refl
  ]) refl

  -- one step more finds nothing more, where no more can be gone
  within_less : (k n : ℕ) (f g : Fid) → climbs parents (suc k) f ≡ false → below_within parents n f g ≡ true → below_within parents k f g ≡ true
  within_less k zero f g stops is = at k
    where
      at : (k : ℕ) → below_within parents k f g ≡ true
      at zero = is
      at (suc k) = ap (λ b. b || option_map_or (λ p. below_within parents k p g) (map.get parents f) false) is
  within_less zero (suc n) f g stops is = (elim (map.get parents f) as (λ o. option_map_or (λ p. true) o false ≡ false → (same_fid f g || option_map_or (λ p. below_within parents n p g) o false) ≡ true → same_fid f g ≡ true) [
    | None ↦ λ _ either. by (same_fid f g) either
    | Some p ↦ λ no _. absurd (false≢true (sym no))
  ]) stops is
    where
      by : (b : Bool) → (b || false) ≡ true → b ≡ true
      by true e = refl
      by false e = e
  within_less (suc k) (suc n) f g stops is = (elim (same_fid f g) as (λ b. (b || option_map_or (λ p. below_within parents n p g) (map.get parents f) false) ≡ true → (b || option_map_or (λ p. below_within parents k p g) (map.get parents f) false) ≡ true) [
    | true ↦ λ _. refl
    | false ↦ λ rest. (elim (map.get parents f) as (λ o. option_map_or (λ p. climbs parents (suc k) p) o false ≡ false → option_map_or (λ p. below_within parents n p g) o false ≡ true → option_map_or (λ p. below_within parents k p g) o false ≡ true) [
      | None ↦ λ _ no. no
      | Some p ↦ λ later below. within_less k n p g later below
    ]) stops rest
  ]) is

  -- what an object is below stands no deeper
  falls_below : (n : ℕ) (f g : Fid) → below_within parents n f g ≡ true → depth g ≤ depth f
  falls_below zero f g h = let same = ap depth (same_fid_is f g h) in omega (arith, same)
  falls_below (suc n) f g h = (elim (same_fid f g) as (λ b. same_fid f g ≡ b → (b || option_map_or (λ p. below_within parents n p g) (map.get parents f) false) ≡ true → depth g ≤ depth f) [
    | true ↦ λ e _. let same = ap depth (same_fid_is f g e) in omega (arith, same)
    | false ↦ λ e rest. (elim (map.get parents f) as (λ o. map.get parents f ≡ o → option_map_or (λ p. below_within parents n p g) o false ≡ true → depth g ≤ depth f) [
      | None ↦ λ is r. absurd (false≢true r)
      | Some p ↦ λ is r. let less = deeper f p is in let more = falls_below n p g r in omega (arith, less, more)
    ]) refl rest
  ]) refl h

  -- so no parent is below its child
  pub no_cycle : (f p : Fid) → map.get parents f ≡ Some p → is_below parents p f ≡ false
  unfolding is_below
  no_cycle f p is = (elim (below_within parents (map.len parents) p f) as (λ b. below_within parents (map.len parents) p f ≡ b → b ≡ false) [
    | true ↦ λ e. let less = deeper f p is in let more = falls_below (map.len parents) p f e in absurd (omega (arith, less, more))
    | false ↦ λ _. refl
  ]) refl

  -- an object is below what it is, and below what its parent is below
  pub below_by : (f p g : Fid) → map.get parents f ≡ Some p → (is_below parents f g ≡ true → (same_fid f g ≡ true) ⊎ (is_below parents p g ≡ true)) × (is_below parents p g ≡ true → is_below parents f g ≡ true)
  unfolding is_below
  below_by f p g is = (
    λ below. by (map.len parents) below,
    λ up. within_less (map.len parents) (suc (map.len parents)) f g (ends f)
        ((elim (same_fid f g) as (λ b. (b || option_map_or (λ q. below_within parents (map.len parents) q g) (map.get parents f) false) ≡ true) [
          | true ↦ refl
          | false ↦ ap (λ o. option_map_or (λ q. below_within parents (map.len parents) q g) o false) is ∙ up
        ])),
  )
    where
      by : (n : ℕ) → below_within parents n f g ≡ true → (same_fid f g ≡ true) ⊎ (below_within parents (map.len parents) p g ≡ true)
      by zero below = inl below
      by (suc n) below = (elim (same_fid f g) as (λ b. (b || option_map_or (λ q. below_within parents n q g) (map.get parents f) false) ≡ true → (b ≡ true) ⊎ (below_within parents (map.len parents) p g ≡ true)) [
        | true ↦ λ _. inl refl
        | false ↦ λ rest. inr (within_less (map.len parents) n p g (ends p) (sym (ap (λ o. option_map_or (λ q. below_within parents n q g) o false) is) ∙ rest))
      ]) below

-- ---- what is left

-- what is left of a map at a fid
pub get_left : {X : Type 0} (m : FinMap fid_cmp X) (test : Fid → Bool) (f : Fid) → map.get (map.retain_keys m test) f ≡ cond (test f) (map.get m f) None
get_left m test f = map.get-retain_keys m test f (λ x e. ap test (sym (exact_fids f x e)))

-- what is left passes the test, and was there
pub left_was : {X : Type 0} (m : FinMap fid_cmp X) (test : Fid → Bool) (f : Fid) (x : X) → map.get (map.retain_keys m test) f ≡ Some x → (test f ≡ true) × (map.get m f ≡ Some x)
left_was m test f x is = (elim (test f) as (λ b. test f ≡ b → cond b (map.get m f) None ≡ Some x → (test f ≡ true) × (map.get m f ≡ Some x)) [
  | true ↦ λ e at. (e, at)
  | false ↦ λ e at. absurd (none-some x at)
]) refl (sym (get_left m test f) ∙ is)

-- what passes the test is left
pub left_there : (m : Nodes) (test : Fid → Bool) (f : Fid) → test f ≡ true → has (map.retain_keys m test) f ≡ has m f
left_there m test f passes = ap is_some (get_left m test f ∙ ap (λ b. cond b (map.get m f) None) passes)

-- ---- what is below an object

-- an object is held below itself
pub below_itself : (parents : Parents) (f : Fid) → is_below parents f f ≡ true
unfolding is_below
below_itself parents f = by (map.len parents)
  where
    by : (n : ℕ) → below_within parents n f f ≡ true
    by zero = same_fid_refl f
    by (suc n) = ap (λ b. b || option_map_or (λ p. below_within parents n p f) (map.get parents f) false) (same_fid_refl f)

-- so it doesn't stay where it goes
pub stays_apart : (parents : Parents) (gone f : Fid) → stays parents gone f ≡ true → f ≢ gone
stays_apart parents gone f here same = false≢true (sym (ap not (ap (λ g. is_below parents g gone) same ∙ below_itself parents gone)) ∙ here)

or_false : (b : Bool) → (b || false) ≡ b
or_false true = refl
or_false false = refl

-- where an object is nobody's parent, nothing else is held below it
pub below_alone : (parents : Parents) (gone : Fid) → ((f : Fid) → map.get parents f ≡ Some gone → ⊥) → (f : Fid) → is_below parents f gone ≡ same_fid f gone
unfolding is_below
below_alone parents gone childless f = by (map.len parents) f
  where
    up : (n : ℕ) (f : Fid) (o : Option Fid) → ((p : Fid) → below_within parents n p gone ≡ same_fid p gone) → map.get parents f ≡ o → (same_fid f gone || option_map_or (λ p. below_within parents n p gone) o false) ≡ same_fid f gone
    up n f None above is = or_false (same_fid f gone)
    up n f (Some p) above is = ap (λ b. same_fid f gone || b) (above p ∙ fid_other p gone (λ same. childless f (is ∙ ap Some same))) ∙ or_false (same_fid f gone)

    by : (n : ℕ) (f : Fid) → below_within parents n f gone ≡ same_fid f gone
    by zero f = refl
    by (suc n) f = up n f (map.get parents f) (λ p. by n p) refl
