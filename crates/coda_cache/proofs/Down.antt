-- What is met on the way down from a node, level by level.
use Rattle.std.proofs.Common.{◌≡◌, ℕ, zero, suc, ◌+◌, ◌-◌, ◌<◌, ◌≤◌, Bool, true, false, cond, ◌||◌, ◌&&◌, List, [], ◌∷◌, ◌++◌, Option, Some, None, length, take, refl, sym, ap, ◌∙◌, arith}
use Rattle.std.specs.Prelude.{slice_index_or}
use Rattle.std.specs.Option.{option_map_or}
use Rattle.std.specs.List.{filter}
use Rattle.std.specs.FinMap as map
use Rattle.std.proofs.lemmas.Bool.{both_ways}
use Rattle.coda_fid.specs.declared.fid.Fid.{Fid}
use Rattle.coda_fid.specs.Fid.{same_fid}
use Rattle.coda_fid.proofs.Fids.{same_fid_is, same_fid_refl}
use Rattle.coda_walk.specs.Going.{is_listed}
use Rattle.coda_cache.specs.State.{CacheState, is_cached, parent_of}
use Rattle.coda_cache.specs.Ways.{way_within, way_up, is_below, at_or_below}
use Rattle.coda_cache.specs.Keeping.{Agree}
use Rattle.coda_cache.specs.Indexed.{is_parent, is_under_any, is_down}
use Rattle.coda_cache.proofs.Kept.{listed_where, both_true}
use Rattle.coda_cache.proofs.Standing.{listed_next}

-- ---- lists

pub listed_join : (a b : List Fid) (f : Fid) → is_listed (a ++ b) f ≡ (is_listed a f || is_listed b f)
listed_join [] b f = refl
listed_join (g ∷ a) b f = ap (λ x. same_fid g f || x) (listed_join a b f) ∙ either_three (same_fid g f) (is_listed a f) (is_listed b f)
  where
    either_three : (x y z : Bool) → (x || (y || z)) ≡ ((x || y) || z)
    either_three true y z = refl
    either_three false y z = refl

pub none_of : (fids : List Fid) → length fids ≡ 0 → fids ≡ []
none_of [] is = refl
none_of (f ∷ fids) is = absurd (omega (arith, is))

-- tests that answer alike for those of a list
filter_on : (one other : Fid → Bool) (fids : List Fid) → ((g : Fid) → is_listed fids g ≡ true → one g ≡ other g) → filter one fids ≡ filter other fids
filter_on one other [] same = refl
filter_on one other (g ∷ fids) same =
    let here = same g (ap (λ b. b || is_listed fids g) (same_fid_refl g)) in
    let rest = filter_on one other fids (λ x there. same x (ap (λ b. same_fid g x || b) there ∙ or_true (same_fid g x))) in
    (λ i. cond (here i) (g ∷ rest i) (rest i))
  where
    or_true : (b : Bool) → (b || true) ≡ true
    or_true true = refl
    or_true false = refl

-- what stands under one more
pub under_next : (c : CacheState) (dirs : List Fid) (i : ℕ) (d : Fid) → i < length dirs → (f : Fid) →
    is_under_any c (take (suc i) dirs) f ≡ (is_under_any c (take i dirs) f || is_parent (slice_index_or dirs i d) (parent_of c f))
under_next c dirs i d h f = elim (parent_of c f) as (λ o. option_map_or (λ p. is_listed (take (suc i) dirs) p) o false ≡ (option_map_or (λ p. is_listed (take i dirs) p) o false || is_parent (slice_index_or dirs i d) o)) [
  | None ↦ refl
  | Some p ↦ listed_next dirs i d h p
]

-- a parent that is the directory
pub is_parent_is : (dir : Fid) (parent : Option Fid) → is_parent dir parent ≡ true → parent ≡ Some dir
is_parent_is dir None e = absurd (both_ways _ refl e)
is_parent_is dir (Some p) e = ap (λ x. Some x) (sym (same_fid_is dir p e))

-- a level with those that stand under a directory, which are among these
pub under_among : (c : CacheState) (dir : Fid) (was now keys : List Fid) → now ≡ was ++ filter (λ f. is_parent dir (parent_of c f)) keys → ((f : Fid) → parent_of c f ≡ Some dir → is_listed keys f ≡ true) → (f : Fid) →
    is_listed now f ≡ (is_listed was f || is_parent dir (parent_of c f))
under_among c dir was now keys is all f =
    ap (λ l. is_listed l f) is ∙ listed_join was (filter (λ f. is_parent dir (parent_of c f)) keys) f
    ∙ ap (λ b. is_listed was f || b) (listed_where (λ f. is_parent dir (parent_of c f)) keys f ∙ within (is_parent dir (parent_of c f)) (is_listed keys f) (λ e. all f (is_parent_is dir (parent_of c f) e)))
  where
    within : (a b : Bool) → (a ≡ true → b ≡ true) → (a && b) ≡ a
    within true b h = h refl
    within false b h = refl

-- ---- ways

module _ (c : CacheState) (f : Fid) where
  -- a way up that is longer by a step meets what is so many steps up, too
  pub way_more : (n : ℕ) (g : Fid) → is_listed (way_within c (suc n) g) f ≡ (is_listed (way_within c n g) f || is_down c n f g)
  way_more zero g = elim (parent_of c g) as (λ o. (same_fid g f || is_listed (option_map_or (λ p. way_within c zero p) o []) f) ≡ (false || same_fid g f)) [
    | None ↦ or_none (same_fid g f)
    | Some p ↦ or_none (same_fid g f)
  ]
    where
      or_none : (b : Bool) → (b || false) ≡ b
      or_none true = refl
      or_none false = refl
  way_more (suc n) g = elim (parent_of c g) as (λ o. (same_fid g f || is_listed (option_map_or (λ p. way_within c (suc n) p) o []) f) ≡ ((same_fid g f || is_listed (option_map_or (λ p. way_within c n p) o []) f) || option_map_or (λ p. is_down c n f p) o false)) [
    | None ↦ either_three (same_fid g f) false false
    | Some p ↦ ap (λ b. same_fid g f || b) (way_more n p) ∙ either_three (same_fid g f) (is_listed (way_within c n p) f) (is_down c n f p)
  ]
    where
      either_three : (x y z : Bool) → (x || (y || z)) ≡ ((x || y) || z)
      either_three true y z = refl
      either_three false y z = refl

  -- below a level on which nothing is there is none
  none_more : (k : ℕ) → ((g : Fid) → is_down c k f g ≡ false) → (g : Fid) → is_down c (suc k) f g ≡ false
  none_more k none g = elim (parent_of c g) as (λ o. option_map_or (λ p. is_down c k f p) o false ≡ false) [
    | None ↦ refl
    | Some p ↦ none p
  ]

  -- a way up is no longer then
  pub way_ends : (k d : ℕ) → ((g : Fid) → is_down c k f g ≡ false) → (g : Fid) → is_listed (way_within c (k + d) g) f ≡ is_listed (way_within c k g) f
  way_ends k zero none g = let same : k + 0 ≡ k = omega arith in ap (λ n. is_listed (way_within c n g) f) same
  way_ends k (suc d) none g =
      let same : k + suc d ≡ suc k + d = omega arith in
      ap (λ n. is_listed (way_within c n g) f) same ∙ way_ends (suc k) d (none_more k none) g ∙ way_more k g ∙ ap (λ b. is_listed (way_within c k g) f || b) (none g) ∙ or_none (is_listed (way_within c k g) f)
    where
      or_none : (b : Bool) → (b || false) ≡ b
      or_none true = refl
      or_none false = refl

  -- a level on which nothing is, or as many levels as nodes: then all are met
  pub all_levels : (n : ℕ) → n ≤ map.len c.holds → ((g : Fid) → is_down c n f g ≡ false) → (g : Fid) → is_listed (way_within c n g) f ≡ is_below c g f
  unfolding way_up
  all_levels n few none g = let same : n + (map.len c.holds - n) ≡ map.len c.holds = omega (arith, few) in sym (way_ends n (map.len c.holds - n) none g) ∙ ap (λ m. is_listed (way_within c m g) f) same

  pub whole_way : (n : ℕ) → n ≡ map.len c.holds → (g : Fid) → is_listed (way_within c n g) f ≡ is_below c g f
  unfolding way_up
  whole_way n is g = ap (λ m. is_listed (way_within c m g) f) is

  -- the cached nodes of a level more
  pub cached_more : (n : ℕ) (was level : List Fid) → ((g : Fid) → is_listed level g ≡ is_down c n f g) → ((g : Fid) → is_listed was g ≡ (is_listed (way_within c n g) f && is_cached c g)) → (g : Fid) →
      is_listed (was ++ filter (is_cached c) level) g ≡ (is_listed (way_within c (suc n) g) f && is_cached c g)
  cached_more n was level at all g = listed_join was (filter (is_cached c) level) g ∙ (λ i. all g i || listed_where (is_cached c) level g i)
      ∙ ap (λ b. (is_listed (way_within c n g) f && is_cached c g) || (is_cached c g && b)) (at g)
      ∙ both (is_listed (way_within c n g) f) (is_down c n f g) (is_cached c g) ∙ ap (λ b. b && is_cached c g) (sym (way_more n g))
    where
      both : (x y z : Bool) → ((x && z) || (z && y)) ≡ ((x || y) && z)
      both true y true = refl
      both true y false = refl
      both false true true = refl
      both false false true = refl
      both false true false = refl
      both false false false = refl

  -- those that stand under a level are the next one
  pub level_more : (n : ℕ) (level next : List Fid) → ((g : Fid) → is_listed level g ≡ is_down c n f g) → ((g : Fid) → is_listed next g ≡ is_under_any c level g) → (g : Fid) → is_listed next g ≡ is_down c (suc n) f g
  level_more n level next at under g = under g ∙ (elim (parent_of c g) as (λ o. option_map_or (λ p. is_listed level p) o false ≡ option_map_or (λ p. is_down c n f p) o false) [
    | None ↦ refl
    | Some p ↦ at p
  ])

  -- all levels are all that is at or below the node
  pub down_below : Agree c.nodes c.holds c.recency → (g : Fid) → (is_below c g f && is_cached c g) ≡ is_listed (at_or_below c f) g
  down_below a g = ap (λ b. is_below c g f && b) (sym (a.used g)) ∙ sym (listed_where (λ h. is_below c h f) c.recency g)

  -- what is at or below it is used at some time, and is that part of the order of use
  pub below_used : (g : Fid) → is_listed (at_or_below c f) g ≡ true → is_listed c.recency g ≡ true
  below_used g h = (both_true _ _ (sym (listed_where (λ h. is_below c h f) c.recency g) ∙ h)).1

  pub below_in_order : (fids : List Fid) → ((g : Fid) → is_listed fids g ≡ is_listed (at_or_below c f) g) → filter (is_listed fids) c.recency ≡ at_or_below c f
  below_in_order fids same = filter_on (is_listed fids) (λ g. is_below c g f) c.recency (λ g there. same g ∙ listed_where (λ h. is_below c h f) c.recency g ∙ ap (λ b. is_below c g f && b) there ∙ and_true (is_below c g f))
    where
      and_true : (b : Bool) → (b && true) ≡ b
      and_true true = refl
      and_true false = refl
