-- The way up from a cached node: it ends, and goes by the node's parent.
use Rattle.std.proofs.Common.{◌≡◌, ℕ, zero, suc, ◌≤◌, Bool, true, false, cond, ◌||◌, List, [], ◌∷◌, Option, Some, None, IsSome, is_some, length, refl, sym, ap, ◌∙◌, subst, arith}
use Rattle.std.specs.List.{list_any, AllByRecursion, IsDistinct}
use Rattle.std.specs.Map.{lookup}
use Rattle.std.specs.Option.{option_map_or}
use Rattle.std.specs.Ordering.{eq_by_cmp}
use Rattle.std.specs.FinMap as map
use Rattle.std.specs.FinMap.{find}
use Rattle.std.proofs.lemmas.Bool.{both_ways}
use Rattle.std.proofs.lemmas.Option.{none-some}
use Rattle.std.proofs.lemmas.Cmp.{eq_by_cmp_equiv}
use Rattle.std.proofs.lemmas.Map.Steps.{length-le_from_keys}
use Rattle.coda_fid.specs.declared.fid.Fid.{Fid}
use Rattle.coda_fid.specs.Fid.{fid_cmp, same_fid}
use Rattle.coda_fid.proofs.Fids.{fids_total, same_fid_is}
use Rattle.coda_tree.proofs.Booleans.{has_some}
use Rattle.coda_tree.proofs.Parents.{tied_fid}
use Rattle.coda_walk.specs.Going.{is_listed}
use Rattle.coda_cache.specs.declared.hold.Hold.{Hold}
use Rattle.coda_cache.specs.State.{CacheState, is_cached, parent_of, parent_held}
use Rattle.coda_cache.specs.Ways.{way_within, way_up, is_below}
use Rattle.coda_cache.specs.Laws.{IsCache}
use Rattle.coda_cache.proofs.Operated.{len_some}

-- whether a fid is among others, by comparing
abbrev among : List Fid → Fid → Bool
among fids q = list_any (eq_by_cmp fid_cmp q) fids

apart_from : (x : Fid) (xs : List Fid) → among xs x ≡ false → AllByRecursion (λ y. eq_by_cmp fid_cmp x y ≡ false) xs
apart_from x [] h = tt
apart_from x (y ∷ xs) h = (elim (eq_by_cmp fid_cmp x y) as (λ b. eq_by_cmp fid_cmp x y ≡ b → (b || among xs x) ≡ false → AllByRecursion (λ y. eq_by_cmp fid_cmp x y ≡ false) (y ∷ xs)) [
  | true ↦ λ e k. absurd (both_ways _ k refl)
  | false ↦ λ e k. (e, apart_from x xs k)
]) refl h

find_lookup : (es : List (Fid × Hold)) (q : Fid) → find fid_cmp q es ≡ lookup (eq_by_cmp fid_cmp q) es
find_lookup [] q = refl
find_lookup (e ∷ es) q = ap (cond (eq_by_cmp fid_cmp q e.0) (Some e.1)) (find_lookup es q)

module _ (c : CacheState) (k : IsCache c) where
  falls : (n : ℕ) (f q : Fid) → among (way_within c n f) q ≡ true → k.depth q ≤ k.depth f
  falls zero f q h = absurd (both_ways _ refl h)
  falls (suc n) f q h = (elim (eq_by_cmp fid_cmp q f) as (λ b. eq_by_cmp fid_cmp q f ≡ b → (b || among (option_map_or (λ p. way_within c n p) (parent_of c f) []) q) ≡ true → k.depth q ≤ k.depth f) [
    | true ↦ λ e _. let same = ap k.depth (tied_fid q f e) in omega (arith, same)
    | false ↦ λ e rest. (elim (parent_of c f) as (λ o. parent_of c f ≡ o → among (option_map_or (λ p. way_within c n p) o []) q ≡ true → k.depth q ≤ k.depth f) [
      | None ↦ λ is r. absurd (both_ways _ refl r)
      | Some p ↦ λ is r. let less = k.deeper f p is in let more = falls n p q r in omega (arith, less, more)
    ]) refl rest
  ]) refl h

  distinct : (n : ℕ) (f : Fid) → IsDistinct (eq_by_cmp fid_cmp) (way_within c n f)
  unfolding IsDistinct
  distinct zero f = tt
  distinct (suc n) f = (elim (parent_of c f) as (λ o. parent_of c f ≡ o → IsDistinct (eq_by_cmp fid_cmp) (f ∷ option_map_or (λ p. way_within c n p) o [])) [
    | None ↦ λ is. (tt, tt)
    | Some p ↦ λ is. (
      apart_from f (way_within c n p) ((elim (among (way_within c n p) f) as (λ b. among (way_within c n p) f ≡ b → b ≡ false) [
        | true ↦ λ h. let less = k.deeper f p is in let more = falls n p f h in absurd (omega (arith, less, more))
        | false ↦ λ _. refl
      ]) refl),
      distinct n p,
    )
  ]) refl

  all_held : (n : ℕ) (f q : Fid) → is_cached c f ≡ true → among (way_within c n f) q ≡ true → is_cached c q ≡ true
  all_held zero f q there h = absurd (both_ways _ refl h)
  all_held (suc n) f q there h = (elim (eq_by_cmp fid_cmp q f) as (λ b. eq_by_cmp fid_cmp q f ≡ b → (b || among (option_map_or (λ p. way_within c n p) (parent_of c f) []) q) ≡ true → is_cached c q ≡ true) [
    | true ↦ λ e _. ap (is_cached c) (tied_fid q f e) ∙ there
    | false ↦ λ e rest. (elim (parent_of c f) as (λ o. parent_of c f ≡ o → among (option_map_or (λ p. way_within c n p) o []) q ≡ true → is_cached c q ≡ true) [
      | None ↦ λ is r. absurd (both_ways _ refl r)
      | Some p ↦ λ is r. all_held n p q (k.parents f p is) r
    ]) refl rest
  ]) refl h

  few : (n : ℕ) (f : Fid) → is_cached c f ≡ true → length (way_within c n f) ≤ map.len c.holds
  few n f there =
      let few = length-le_from_keys (eq_by_cmp_equiv fids_total) (way_within c n f) (map.entries c.holds) (distinct n f)
      (λ q h. subst IsSome (map.get-entries c.holds q ∙ find_lookup (map.entries c.holds) q) (has_some (map.get c.holds q) (k.held q ∙ all_held n f q there h))) in
      omega (arith, few, map.len-entries c.holds)

  short : (n : ℕ) (p : Fid) → length (way_within c (suc n) p) ≤ n → way_within c (suc n) p ≡ way_within c n p
  short zero p h = absurd (omega (arith, h))
  short (suc n) p h = (elim (parent_of c p) as (λ o. length (p ∷ option_map_or (λ q. way_within c (suc n) q) o []) ≤ suc n → (p ∷ option_map_or (λ q. way_within c (suc n) q) o []) ≡ (p ∷ option_map_or (λ q. way_within c n q) o [])) [
    | None ↦ λ _. refl
    | Some q ↦ λ h. ap (λ l. p ∷ l) (short n q (omega (arith, h)))
  ]) h

  -- the way up goes by the parent
  pub way_by : (f p : Fid) → is_cached c f ≡ true → parent_of c f ≡ Some p → way_up c f ≡ f ∷ way_up c p
  unfolding way_up
  way_by f p there is =
      let n = len_some c.holds f (k.held f ∙ there) in
      let long : length (f ∷ way_within c (suc n.0) p) ≤ map.len c.holds = subst (λ o. length (f ∷ option_map_or (λ q. way_within c (suc n.0) q) o []) ≤ map.len c.holds) is (few (suc (suc n.0)) f there) in
      let all = n.1 in
      ap (λ m. way_within c m f) n.1 ∙ ap (λ o. f ∷ option_map_or (λ q. way_within c n.0 q) o []) is
      ∙ ap (λ l. f ∷ l) (sym (ap (λ m. way_within c m p) n.1 ∙ short n.0 p (omega (arith, long, all))))

  pub below_by : (f p g : Fid) → is_cached c f ≡ true → parent_of c f ≡ Some p → is_below c f g ≡ (same_fid f g || is_below c p g)
  below_by f p g there is = ap (λ l. is_listed l g) (way_by f p there is)

  -- what has a parent is cached
  pub child_cached : (f p : Fid) → parent_of c f ≡ Some p → is_cached c f ≡ true
  child_cached f p is = sym (k.held f) ∙ held (map.get c.holds f) is
    where
      held : (o : Option Hold) → parent_held o ≡ Some p → is_some o ≡ true
      held None e = absurd (none-some p e)
      held (Some hold) e = refl

  -- a node without a parent is the whole way up
  pub way_top : (f : Fid) → is_cached c f ≡ true → parent_of c f ≡ None → way_up c f ≡ f ∷ []
  unfolding way_up
  way_top f there none =
      let n = len_some c.holds f (k.held f ∙ there) in
      ap (λ m. way_within c m f) n.1 ∙ ap (λ o. f ∷ option_map_or (λ q. way_within c n.0 q) o []) none

  all_cached : (n : ℕ) (f q : Fid) → is_cached c f ≡ true → is_listed (way_within c n f) q ≡ true → is_cached c q ≡ true
  all_cached zero f q there h = absurd (both_ways _ refl h)
  all_cached (suc n) f q there h = (elim (same_fid f q) as (λ b. same_fid f q ≡ b → (b || is_listed (option_map_or (λ p. way_within c n p) (parent_of c f) []) q) ≡ true → is_cached c q ≡ true) [
    | true ↦ λ e _. ap (is_cached c) (sym (same_fid_is f q e)) ∙ there
    | false ↦ λ e rest. (elim (parent_of c f) as (λ o. parent_of c f ≡ o → is_listed (option_map_or (λ p. way_within c n p) o []) q ≡ true → is_cached c q ≡ true) [
      | None ↦ λ is r. absurd (both_ways _ refl r)
      | Some p ↦ λ is r. all_cached n p q (k.parents f p is) r
    ]) refl rest
  ]) refl h

  -- what is on the way up is cached
  pub way_cached : (f q : Fid) → is_cached c f ≡ true → is_below c f q ≡ true → is_cached c q ≡ true
  unfolding way_up
  way_cached f q there h = all_cached (map.len c.holds) f q there h
