-- Who goes of items that differ in what the going doesn't look at.
use Rattle.std.proofs.Common.{◌≡◌, ◌==◌, ℕ, zero, suc, ◌+◌, ◌≤◌, ◌<◌, Bool, true, false, cond, not, ◌&&◌, ◌||◌, List, [], ◌∷◌, ◌++◌, length, Option, Some, None, refl, sym, ap, ◌∙◌, subst, inl, inr, arith, append-nil}
use Rattle.std.specs.Prelude as prelude
use Rattle.std.specs.Prelude.{nat_le, nat_lt}
use Rattle.std.specs.Ordering.{is_gt}
use Rattle.std.specs.Option.{option_map_or}
use Rattle.std.specs.List.{filter, list_any, best_of}
use Rattle.std.proofs.lemmas.Bool.{both_ways, leb-true, leb-false, le-leb, lt-leb}
use Rattle.std.proofs.lemmas.Option.{none-some, same_Some}
use Rattle.std.proofs.lemmas.List.Folds.{list_any-append}
use Rattle.coda_fid.specs.declared.fid.Fid.{Fid}
use Rattle.coda_fid.specs.Fid.{fid_cmp, same_fid}
use Rattle.coda_fid.proofs.Fids.{same_fid_is, same_fid_refl}
use Rattle.coda_walk.specs.declared.item.Item.{Item}
use Rattle.coda_walk.specs.Going.{blocks_of, is_listed, is_under, stays, may_go, goes_before, first_to_go, next_to_go, without, going_within, who_goes}
use Rattle.coda_walk.specs.Laws.{Among}
use Rattle.coda_walk.proofs.Steps.{going_none}
use Rattle.coda_cache.specs.Uses.{except}
use Rattle.coda_cache.proofs.Uses.{filter_joined}
use Rattle.coda_cache.proofs.Kept.{listed_where}

-- the items of fids, of which one may go
abbrev first_fid : (Fid → Item) → Fid → List Fid → Fid
first_fid a g [] = g
first_fid a g (h ∷ fids) = first_fid a (cond (goes_before (a h) (a g)) h g) fids

abbrev first_of : (Fid → Item) → List Fid → Option Fid
first_of a [] = None
first_of a (g ∷ fids) = Some (first_fid a g fids)

length_map : (a : Fid → Item) (fids : List Fid) → length (prelude.map a fids) ≡ length fids
length_map a [] = refl
length_map a (g ∷ fids) = ap suc (length_map a fids)

length_joined : (l : List Item) (k : List Item) → length (l ++ k) ≡ length l + length k
length_joined [] k = omega arith
length_joined (i ∷ l) k = let rest = length_joined l k in omega (arith, rest)

blocks_joined : (l : List Item) (k : List Item) → blocks_of (l ++ k) ≡ blocks_of l + blocks_of k
blocks_joined [] k = omega arith
blocks_joined (i ∷ l) k = let rest = blocks_joined l k in omega (arith, rest)

pub filter_map_is : (a : Fid → Item) (test : Item → Bool) (fids : List Fid) → filter test (prelude.map a fids) ≡ prelude.map a (filter (λ g. test (a g)) fids)
filter_map_is a test [] = refl
filter_map_is a test (g ∷ fids) = elim (test (a g)) as (λ b. cond b (a g ∷ filter test (prelude.map a fids)) (filter test (prelude.map a fids)) ≡ prelude.map a (cond b (g ∷ filter (λ g. test (a g)) fids) (filter (λ g. test (a g)) fids))) [
  | true ↦ ap (λ l. a g ∷ l) (filter_map_is a test fids)
  | false ↦ filter_map_is a test fids
]

filter_same : (one other : Fid → Bool) (fids : List Fid) → ((g : Fid) → is_listed fids g ≡ true → one g ≡ other g) → filter one fids ≡ filter other fids
filter_same one other [] same = refl
filter_same one other (g ∷ fids) same =
    let rest = filter_same one other fids (λ h listed. same h (later (same_fid g h) (is_listed fids h) listed)) in
    λ i. cond (same g (ap (λ b. b || is_listed fids g) (same_fid_refl g)) i) (g ∷ rest i) (rest i)
  where
    later : (b : Bool) (x : Bool) → x ≡ true → (b || x) ≡ true
    later true x h = refl
    later false x h = h

first_is : (a : Fid → Item) (fids : List Fid) → first_to_go (prelude.map a fids) ≡ prelude.option_map a (first_of a fids)
first_is a [] = refl
first_is a (g ∷ fids) = ap Some (best a g fids)
  where
    best : (a : Fid → Item) (g : Fid) (fids : List Fid) → best_of goes_before (a g) (prelude.map a fids) ≡ a (first_fid a g fids)
    best a g [] = refl
    best a g (h ∷ fids) = (elim (goes_before (a h) (a g)) as (λ b. best_of goes_before (cond b (a h) (a g)) (prelude.map a fids) ≡ a (first_fid a (cond b h g) fids)) [
      | true ↦ best a h fids
      | false ↦ best a g fids
    ])

-- the first is one of them
among_first : (a : Fid → Item) (g : Fid) (fids : List Fid) → is_listed (g ∷ fids) (first_fid a g fids) ≡ true
among_first a g [] = ap (λ b. b || false) (same_fid_refl g)
among_first a g (h ∷ fids) = (elim (goes_before (a h) (a g)) as (λ b. is_listed (g ∷ h ∷ fids) (first_fid a (cond b h g) fids) ≡ true) [
  | true ↦ later (same_fid g (first_fid a h fids)) (is_listed (h ∷ fids) (first_fid a h fids)) (among_first a h fids)
  | false ↦ skip (same_fid g (first_fid a g fids)) (same_fid h (first_fid a g fids)) (is_listed fids (first_fid a g fids)) (among_first a g fids)
])
  where
    later : (b x : Bool) → x ≡ true → (b || x) ≡ true
    later true x h = refl
    later false x h = h

    skip : (b c x : Bool) → (b || x) ≡ true → (b || (c || x)) ≡ true
    skip true c x h = refl
    skip false true x h = refl
    skip false false x h = h

first_listed : (a : Fid → Item) (fids : List Fid) (g : Fid) → first_of a fids ≡ Some g → is_listed fids g ≡ true
first_listed a [] g is = absurd (none-some g is)
first_listed a (h ∷ fids) g is = subst (λ x. is_listed (h ∷ fids) x ≡ true) (same_Some _ g is) (among_first a h fids)

shorter : (fids : List Fid) (g : Fid) → is_listed fids g ≡ true → length (except fids g) < length fids
shorter [] g listed = absurd (both_ways _ refl listed)
shorter (h ∷ fids) g listed = (elim (same_fid h g) as (λ b. (b || is_listed fids g) ≡ true → length (cond (not b) (h ∷ except fids g) (except fids g)) < suc (length fids)) [
  | true ↦ λ _. let less = no_longer fids in omega (arith, less)
  | false ↦ λ rest. let less = shorter fids g rest in omega (arith, less)
]) listed
  where
    no_longer : (fids : List Fid) → length (except fids g) ≤ length fids
    no_longer [] = omega arith
    no_longer (h ∷ fids) =
        let less = no_longer fids in
        elim (same_fid h g) as (λ b. length (cond (not b) (h ∷ except fids g) (except fids g)) ≤ suc (length fids)) [ true ↦ omega (arith, less) | false ↦ omega (arith, less) ]

fits_same : (x y s t e l : ℕ) → y + l ≡ x + e → t + l ≡ s + e → nat_le x s ≡ nat_le y t
fits_same x y s t e l sums sizes = (elim (nat_le x s) as (λ b. nat_le x s ≡ b → b ≡ nat_le y t) [
  | true ↦ λ h. let le = leb-true x s h in sym (le-leb y t (omega (arith, le, sums, sizes)))
  | false ↦ λ h. let lt = leb-false x s h in sym (lt-leb y t (omega (arith, lt, sums, sizes)))
]) refl

-- what is left of the items of fids
pub without_map : (a : Fid → Item) → ((g : Fid) → (a g).fid ≡ g) → (f : Fid) (fids : List Fid) → without f (prelude.map a fids) ≡ prelude.map a (except fids f)
without_map a fid_is f fids = filter_map_is a (λ i. not (same_fid i.fid f)) fids ∙ ap (prelude.map a) (filter_same (λ g. not (same_fid (a g).fid f)) (λ g. not (same_fid g f)) fids (λ g _. ap (λ x. not (same_fid x f)) (fid_is g)))

parts_of : (a b : Bool) → (a && b) ≡ true → (a ≡ true) × (b ≡ true)
parts_of true b h = (refl, h)
parts_of false b h = absurd (both_ways _ refl h)

not_true : (a : Bool) → not a ≡ true → a ≡ false
not_true true h = absurd (both_ways _ refl h)
not_true false h = refl

second_false : (a b : Bool) → (a || b) ≡ false → b ≡ false
second_false true b h = absurd (both_ways _ h refl)
second_false false b h = h

-- Items a and b of the same fids, and more items behind the latter that stay. They have the same parents and priorities, the
-- same stay, and those that don't take as many blocks.
module _ (a b : Fid → Item) (kept other : List Fid) (more : List Item) (fid_a : (g : Fid) → (a g).fid ≡ g) (fid_b : (g : Fid) → (b g).fid ≡ g) (parents : (g : Fid) → (a g).parent ≡ (b g).parent)
    (priorities : (g : Fid) → (a g).priority ≡ (b g).priority) (stay : (g : Fid) → stays other (a g) ≡ stays kept (b g)) (same_blocks : (g : Fid) → stays other (a g) ≡ false → (a g).blocks ≡ (b g).blocks)
    (more_kept : (t : Item) → Among t more → is_listed kept t.fid ≡ true) where
  -- those above the further items stay
  abbrev Above : List Fid → Type 0
  Above fids = (g : Fid) → is_listed fids g ≡ true → list_any (is_under g) more ≡ true → stays kept (b g) ≡ true

  abbrev may : List Fid → Fid → Bool
  may fids g = may_go other (prelude.map a fids) (a g)

  under_same : (g : Fid) (fids : List Fid) → list_any (is_under g) (prelude.map b fids) ≡ list_any (is_under g) (prelude.map a fids)
  under_same g [] = refl
  under_same g (h ∷ fids) = λ i. option_map_or (λ p. same_fid p g) (sym (parents h) i) false || under_same g fids i

  drop_more : (s u t : Bool) → (t ≡ true → s ≡ true) → (not s && not (u || t)) ≡ (not s && not u)
  drop_more true u t h = refl
  drop_more false u true h = absurd (both_ways _ refl (h refl))
  drop_more false true false h = refl
  drop_more false false false h = refl

  may_same : (fids : List Fid) → Above fids → (g : Fid) → is_listed fids g ≡ true → may_go kept (prelude.map b fids ++ more) (b g) ≡ may fids g
  may_same fids above g listed =
      ap (λ x. not (stays kept (b g)) && not x) (list_any-append (is_under (b g).fid) (prelude.map b fids) more)
      ∙ ap (λ f. not (stays kept (b g)) && not (list_any (is_under f) (prelude.map b fids) || list_any (is_under f) more)) (fid_b g)
      ∙ drop_more (stays kept (b g)) (list_any (is_under g) (prelude.map b fids)) (list_any (is_under g) more) (above g listed)
      ∙ (λ i. not (sym (stay g) i) && not (under_same g fids i))
      ∙ ap (λ f. not (stays other (a g)) && not (list_any (is_under f) (prelude.map a fids))) (sym (fid_a g))

  or_second : (x y : Bool) → y ≡ true → (x || y) ≡ true
  or_second true y h = refl
  or_second false y h = h

  none_may : (items some : List Item) → ((t : Item) → Among t some → is_listed kept t.fid ≡ true) → filter (may_go kept items) some ≡ []
  none_may items [] every = refl
  none_may items (t ∷ some) every =
      ap (λ s. cond (not s && not (list_any (is_under t.fid) items)) (t ∷ filter (may_go kept items) some) (filter (may_go kept items) some)) (or_second t.pinned (is_listed kept t.fid) (every t (inl refl)))
      ∙ none_may items some (λ u h. every u (inr h))

  before : (h g : Fid) → goes_before (b h) (b g) ≡ goes_before (a h) (a g)
  before h g = λ i. nat_lt (sym (priorities h) i) (sym (priorities g) i)
      || ((sym (priorities h) i == sym (priorities g) i) && (nat_lt 0 (sym (priorities g) i) && is_gt (fid_cmp ((fid_b h ∙ sym (fid_a h)) i) ((fid_b g ∙ sym (fid_a g)) i))))

  first_same : (fids : List Fid) → first_of b fids ≡ first_of a fids
  first_same [] = refl
  first_same (g ∷ fids) = ap Some (go g fids)
    where
      go : (g : Fid) (fids : List Fid) → first_fid b g fids ≡ first_fid a g fids
      go g [] = refl
      go g (h ∷ fids) = ap (λ x. first_fid b (cond x h g) fids) (before h g) ∙ go (cond (goes_before (a h) (a g)) h g) fids

  abbrev next : List Fid → Option Fid
  next fids = first_of a (filter (may fids) fids)

  next_a : (fids : List Fid) → next_to_go other (prelude.map a fids) ≡ prelude.option_map a (next fids)
  next_a fids = ap first_to_go (filter_map_is a (may_go other (prelude.map a fids)) fids) ∙ first_is a (filter (may fids) fids)

  next_b : (fids : List Fid) → Above fids → next_to_go kept (prelude.map b fids ++ more) ≡ prelude.option_map b (next fids)
  next_b fids above =
      let all = prelude.map b fids ++ more in
      ap first_to_go (filter_joined (may_go kept all) (prelude.map b fids) more ∙ ap (λ l. filter (may_go kept all) (prelude.map b fids) ++ l) (none_may all more more_kept)
      ∙ append-nil (filter (may_go kept all) (prelude.map b fids)) ∙ filter_map_is b (may_go kept all) fids
      ∙ ap (prelude.map b) (filter_same (λ g. may_go kept all (b g)) (may fids) fids (may_same fids above)))
      ∙ first_is b (filter (may fids) fids) ∙ ap (prelude.option_map b) (first_same (filter (may fids) fids))

  without_more : (g : Fid) → is_listed kept g ≡ false → (some : List Item) → ((t : Item) → Among t some → is_listed kept t.fid ≡ true) → without g some ≡ some
  without_more g unkept [] every = refl
  without_more g unkept (t ∷ some) every =
      let rest = without_more g unkept some (λ u h. every u (inr h)) in
      (elim (same_fid t.fid g) as (λ x. same_fid t.fid g ≡ x → cond (not x) (t ∷ without g some) (without g some) ≡ t ∷ some) [
        | true ↦ λ e. absurd (both_ways _ unkept (subst (λ f. is_listed kept f ≡ true) (same_fid_is t.fid g e) (every t (inl refl))))
        | false ↦ λ _. ap (λ l. t ∷ l) rest
      ]) refl

  without_b : (g : Fid) (fids : List Fid) → is_listed kept g ≡ false → without g (prelude.map b fids ++ more) ≡ prelude.map b (except fids g) ++ more
  without_b g fids unkept = filter_joined (λ i. not (same_fid i.fid g)) (prelude.map b fids) more ∙ (λ i. without_map b fid_b g fids i ++ without_more g unkept more more_kept i)

  sums_left : (g : Fid) → (a g).blocks ≡ (b g).blocks → (fids : List Fid) → blocks_of (prelude.map b fids) + blocks_of (prelude.map a (except fids g)) ≡ blocks_of (prelude.map a fids) + blocks_of (prelude.map b (except fids g))
  sums_left g same [] = refl
  sums_left g same (h ∷ fids) =
      let rest = sums_left g same fids in
      (elim (same_fid h g) as (λ x. same_fid h g ≡ x → blocks_of (prelude.map b (h ∷ fids)) + blocks_of (prelude.map a (cond (not x) (h ∷ except fids g) (except fids g))) ≡ blocks_of (prelude.map a (h ∷ fids)) + blocks_of (prelude.map b (cond (not x) (h ∷ except fids g) (except fids g)))) [
        | true ↦ λ e. let here = subst (λ x. (a x).blocks ≡ (b x).blocks) (sym (same_fid_is h g e)) same in omega (arith, rest, here)
        | false ↦ λ _. omega (arith, rest)
      ]) refl

  still_above : (fids : List Fid) (g : Fid) → Above fids → Above (except fids g)
  still_above fids g above h listed = above h (parts_of (not (same_fid h g)) (is_listed fids h) (sym (listed_where (λ x. not (same_fid x g)) fids h) ∙ listed)).1

  none_goes : (n size : ℕ) → going_within n size kept more ≡ []
  none_goes n size = going_none n size kept more (ap first_to_go (none_may more more more_kept))

  pub going_alike : (n m size2 size extra less : ℕ) (fids : List Fid) → length fids ≤ n → length fids ≤ m → Above fids → blocks_of (prelude.map b fids ++ more) + less ≡ blocks_of (prelude.map a fids) + extra → size + less ≡ size2 + extra →
      going_within n size2 other (prelude.map a fids) ≡ going_within m size kept (prelude.map b fids ++ more)
  going_alike zero m size2 size extra less [] few few2 above sums sizes = sym (none_goes m size)
  going_alike zero m size2 size extra less (h ∷ fids) few few2 above sums sizes = absurd (omega (arith, few))
  going_alike (suc n) zero size2 size extra less [] few few2 above sums sizes = going_none (suc n) size2 other [] refl
  going_alike (suc n) zero size2 size extra less (h ∷ fids) few few2 above sums sizes = absurd (omega (arith, few2))
  going_alike (suc n) (suc m) size2 size extra less fids few few2 above sums sizes =
      let items = prelude.map a fids in
      let all = prelude.map b fids ++ more in
      let fit = fits_same (blocks_of items) (blocks_of all) size2 size extra less sums sizes in
      let step = ap (λ o. option_map_or (λ (i : Item). i.fid ∷ going_within n size2 other (without i.fid items)) o []) (next_a fids)
      ∙ (elim (next fids) as (λ o. next fids ≡ o → option_map_or (λ (i : Item). i.fid ∷ going_within n size2 other (without i.fid items)) (prelude.option_map a o) [] ≡ option_map_or (λ (i : Item). i.fid ∷ going_within m size kept (without i.fid all)) (prelude.option_map b o) []) [
        | None ↦ λ _. refl
        | Some g ↦ λ is.
            let both = parts_of (may fids g) (is_listed fids g) (sym (listed_where (may fids) fids g) ∙ first_listed a (filter (may fids) fids) g is) in
            let free = not_true (stays other (a g)) (parts_of (not (stays other (a g))) _ both.0).0 in
            let unkept : is_listed kept g ≡ false = ap (is_listed kept) (sym (fid_b g)) ∙ second_false (b g).pinned (is_listed kept (b g).fid) (sym (stay g) ∙ free) in
            let fewer = shorter fids g both.1 in
            let left = sums_left g (same_blocks g free) fids in
            let one = blocks_joined (prelude.map b fids) more in
            let two = blocks_joined (prelude.map b (except fids g)) more in
            ap (λ f. f ∷ going_within n size2 other (without f items)) (fid_a g)
            ∙ ap (λ l. g ∷ l) (ap (going_within n size2 other) (without_map a fid_a g fids)
            ∙ going_alike n m size2 size extra less (except fids g) (omega (arith, few, fewer)) (omega (arith, few2, fewer)) (still_above fids g above) (omega (arith, left, one, two, sums)) sizes
            ∙ sym (ap (going_within m size kept) (without_b g fids unkept)))
            ∙ sym (ap (λ f. f ∷ going_within m size kept (without f all)) (fid_b g))
      ]) refl
      ∙ sym (ap (λ o. option_map_or (λ (i : Item). i.fid ∷ going_within m size kept (without i.fid all)) o []) (next_b fids above)) in
      λ i. cond (fit i) [] (step i)

  pub who_goes_alike : (size2 size extra less : ℕ) (fids : List Fid) → Above fids → blocks_of (prelude.map b fids ++ more) + less ≡ blocks_of (prelude.map a fids) + extra → size + less ≡ size2 + extra →
      who_goes size2 other (prelude.map a fids) ≡ who_goes size kept (prelude.map b fids ++ more)
  unfolding who_goes
  who_goes_alike size2 size extra less fids above sums sizes =
      let one = length_map a fids in
      let two = length_map b fids in
      let three = length_joined (prelude.map b fids) more in
      going_alike (length (prelude.map a fids)) (length (prelude.map b fids ++ more)) size2 size extra less fids (omega (arith, one)) (omega (arith, two, three)) above sums sizes
