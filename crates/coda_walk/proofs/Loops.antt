-- Steps of the loops that count blocks and climb.
use Rattle.std.proofs.Common.{◌≡◌, ℕ, zero, suc, ◌+◌, ◌-◌, ◌<◌, ◌≤◌, Bool, true, false, cond, ◌||◌, List, [], ◌∷◌, ◌++◌, length, take, slice_index_or, Option, Some, None, refl, sym, ap, ◌∙◌, arith, append_assoc}
use Rattle.std.specs.Prelude as prelude
use Rattle.std.specs.Option.{option_map_or}
use Rattle.std.specs.List.{filter, filter_map, cons_option, list_any}
use Rattle.coda_fid.specs.declared.fid.Fid.{Fid}
use Rattle.coda_fid.specs.Fid.{same_fid}
use Rattle.coda_walk.specs.declared.item.Item.{Item}
use Rattle.coda_walk.specs.Going.{blocks_of}
use Rattle.coda_walk.specs.Planning.{parent_at, item_at, way_within}
use Rattle.coda_walk.proofs.Ways.{way_on}
use Rattle.coda_walk.specs.Climbing.{blocks_at, blocks_on, unless, new_on, first_of}

abbrev pub is_pinned : Item → Bool
is_pinned i = i.pinned

-- ---- the blocks of the first items that pass

pub counted_more : (test : Item → Bool) (items : List Item) (i : ℕ) (d : Item) (b : Bool) → i < length items → test (slice_index_or items i d) ≡ b →
    blocks_of (filter test (take (suc i) items)) ≡ blocks_of (filter test (take i items)) + cond b (slice_index_or items i d).blocks 0
counted_more test [] i d b h t = absurd (omega (arith, h))
counted_more test (j ∷ items) zero d b h t = ap (λ x. blocks_of (cond x (j ∷ []) [])) t ∙ one b
  where
    one : (x : Bool) → blocks_of (cond x (j ∷ []) []) ≡ 0 + cond x j.blocks 0
    one true = omega arith
    one false = refl
counted_more test (j ∷ items) (suc i) d b h t =
    let more = counted_more test items i d b (omega (arith, h)) t in
    elim (test j) as (λ x. blocks_of (cond x (j ∷ filter test (take (suc i) items)) (filter test (take (suc i) items))) ≡ blocks_of (cond x (j ∷ filter test (take i items)) (filter test (take i items))) + cond b (slice_index_or items i d).blocks 0) [
      | true ↦ omega (arith, more)
      | false ↦ more
    ]

pub counted_first : (test : Item → Bool) (items : List Item) (i : ℕ) → blocks_of (filter test (take i items)) ≤ blocks_of (filter test items)
counted_first test [] zero = omega arith
counted_first test [] (suc i) = omega arith
counted_first test (j ∷ items) zero = omega arith
counted_first test (j ∷ items) (suc i) =
    let less = counted_first test items i in
    elim (test j) as (λ x. blocks_of (cond x (j ∷ filter test (take i items)) (filter test (take i items))) ≤ blocks_of (cond x (j ∷ filter test items) (filter test items))) [
      | true ↦ omega (arith, less)
      | false ↦ less
    ]

-- ---- the blocks of the first fids

pub blocks_on_more : (items : List Item) (fids : List Fid) (i : ℕ) (d : Fid) → i < length fids → blocks_on items (take (suc i) fids) ≡ blocks_on items (take i fids) + blocks_at items (slice_index_or fids i d)
blocks_on_more items [] i d h = absurd (omega (arith, h))
blocks_on_more items (f ∷ fids) zero d h = omega arith
blocks_on_more items (f ∷ fids) (suc i) d h = let more = blocks_on_more items fids i d (omega (arith, h)) in omega (arith, more)

pub blocks_on_first : (items : List Item) (fids : List Fid) (i : ℕ) → blocks_on items (take i fids) ≤ blocks_on items fids
blocks_on_first items [] zero = omega arith
blocks_on_first items [] (suc i) = omega arith
blocks_on_first items (f ∷ fids) zero = omega arith
blocks_on_first items (f ∷ fids) (suc i) = let less = blocks_on_first items fids i in omega (arith, less)

-- ---- a step up

pub new_step : (items : List Item) (test : Fid → Bool) (way pushed all : List Fid) (now : ℕ) (on : Fid) (at up : Option Fid) → now < length items → at ≡ Some on → pushed ≡ way ++ on ∷ [] → up ≡ unless test (parent_at items on) →
    way ++ new_on items test (length items - now) at ≡ all → pushed ++ new_on items test (length items - (now + 1)) up ≡ all
new_step items test way pushed all now on at up inside is push above was =
    let steps : length items - now ≡ suc (length items - (now + 1)) = omega (arith, inside) in
    ap (λ l. l ++ new_on items test (length items - (now + 1)) up) push ∙ append_assoc way (on ∷ []) _
    ∙ ap (λ o. way ++ on ∷ new_on items test (length items - (now + 1)) o) above
    ∙ sym (ap (λ n. way ++ new_on items test n at) steps ∙ ap (λ o. way ++ new_on items test (suc (length items - (now + 1))) o) is) ∙ was

-- ---- items one after the other

pub item_more : (items : List Item) (i : ℕ) (d : Item) (f : Fid) → i < length items →
    item_at (take (suc i) items) f ≡ first_of (item_at (take i items) f) (cond (same_fid (slice_index_or items i d).fid f) (Some (slice_index_or items i d)) None)
item_more [] i d f h = absurd (omega (arith, h))
item_more (j ∷ items) zero d f h = elim (same_fid j.fid f) as (λ b. cond b (Some j) None ≡ cond b (Some j) None) [ true ↦ refl | false ↦ refl ]
item_more (j ∷ items) (suc i) d f h =
    let more = item_more items i d f (omega (arith, h)) in
    elim (same_fid j.fid f) as (λ b. cond b (Some j) (item_at (take (suc i) items) f) ≡ first_of (cond b (Some j) (item_at (take i items) f)) (cond (same_fid (slice_index_or items i d).fid f) (Some (slice_index_or items i d)) None)) [
      | true ↦ refl
      | false ↦ more
    ]

pub used_more : (found : Fid → Option Item) (fids : List Fid) (i : ℕ) (d : Fid) → i < length fids → filter_map found (take (suc i) fids) ≡ filter_map found (take i fids) ++ cons_option (found (slice_index_or fids i d)) []
used_more found [] i d h = absurd (omega (arith, h))
used_more found (f ∷ fids) zero d h = refl
used_more found (f ∷ fids) (suc i) d h =
    let more = used_more found fids i d (omega (arith, h)) in
    elim (found f) as (λ o. cons_option o (filter_map found (take (suc i) fids)) ≡ cons_option o (filter_map found (take i fids)) ++ cons_option (found (slice_index_or fids i d)) []) [
      | None ↦ more
      | Some x ↦ ap (λ l. x ∷ l) more
    ]

or_swap : (a b c : Bool) → (a || (b || c)) ≡ (b || (a || c))
or_swap true true c = refl
or_swap true false c = refl
or_swap false b c = refl

pub placed_more : {K : Type 0} (p : K → Bool) (f : Item → K) (test : Item → Bool) (items : List Item) (i : ℕ) (d : Item) (b : Bool) → i < length items → test (slice_index_or items i d) ≡ b →
    list_any p (prelude.map f (filter test (take (suc i) items))) ≡ cond b (p (f (slice_index_or items i d)) || list_any p (prelude.map f (filter test (take i items)))) (list_any p (prelude.map f (filter test (take i items))))
placed_more p f test [] i d b h t = absurd (omega (arith, h))
placed_more p f test (j ∷ items) zero d b h t = ap (λ x. list_any p (prelude.map f (cond x (j ∷ []) []))) t ∙ one b
  where
    one : (x : Bool) → list_any p (prelude.map f (cond x (j ∷ []) [])) ≡ cond x (p (f j) || false) false
    one true = refl
    one false = refl
placed_more {K} p f test (j ∷ items) (suc i) d b h t =
    let more = placed_more p f test items i d b (omega (arith, h)) t in
    elim (test j) as (λ x. list_any p (prelude.map f (cond x (j ∷ filter test (take (suc i) items)) (filter test (take (suc i) items)))) ≡ cond b (p (f (slice_index_or items i d)) || list_any p (prelude.map f (cond x (j ∷ filter test (take i items)) (filter test (take i items))))) (list_any p (prelude.map f (cond x (j ∷ filter test (take i items)) (filter test (take i items)))))) [
      | true ↦ ap (λ x. p (f j) || x) more ∙ inside b
      | false ↦ more
    ]
  where
    inside : (x : Bool) → (p (f j) || cond x (p (f (slice_index_or items i d)) || list_any p (prelude.map f (filter test (take i items)))) (list_any p (prelude.map f (filter test (take i items))))) ≡ cond x (p (f (slice_index_or items i d)) || (p (f j) || list_any p (prelude.map f (filter test (take i items))))) (p (f j) || list_any p (prelude.map f (filter test (take i items))))
    inside true = or_swap (p (f j)) (p (f (slice_index_or items i d))) _
    inside false = refl

-- ---- how far up it is

pub depth_step : (items : List Item) (step : ℕ) (at : Option Fid) (on : Fid) (up : Option Fid) (all : ℕ) → step < length items → at ≡ Some on → up ≡ parent_at items on →
    step + length (way_on items (length items - step) at) ≡ all → (step + 1) + length (way_on items (length items - (step + 1)) up) ≡ all
depth_step items step at on up all inside is above was =
    let steps : length items - step ≡ suc (length items - (step + 1)) = omega (arith, inside) in
    let here = ap (λ n. length (way_on items n at)) steps ∙ ap (λ o. length (way_on items (suc (length items - (step + 1))) o)) is in
    let rest = ap (λ o. length (way_on items (length items - (step + 1)) o)) above ∙ on_up (length items - (step + 1)) (parent_at items on) in
    omega (arith, was, here, rest)
  where
    on_up : (n : ℕ) (o : Option Fid) → length (way_on items n o) ≡ length (option_map_or (λ p. way_within items n p) o [])
    on_up n None = refl
    on_up n (Some p) = refl
