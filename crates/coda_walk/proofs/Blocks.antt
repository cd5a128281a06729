-- The blocks of the items whose fids pass a test.
use Rattle.std.proofs.Common.{◌≡◌, ℕ, ◌+◌, Bool, true, false, cond, ◌||◌, List, [], ◌∷◌, Some, refl, sym, ap, ◌∙◌, subst, inl, inr, arith}
use Rattle.std.specs.Option.{option_map_or}
use Rattle.std.specs.List.{filter, IsDistinct, AllByRecursion}
use Rattle.std.proofs.lemmas.Bool.{both_ways, false_from_ne_true}
use Rattle.std.proofs.lemmas.Option.{none-some, same_Some}
use Rattle.coda_fid.specs.declared.fid.Fid.{Fid}
use Rattle.coda_fid.specs.Fid.{same_fid}
use Rattle.coda_fid.proofs.Fids.{same_fid_is, same_fid_refl}
use Rattle.coda_walk.specs.declared.item.Item.{Item}
use Rattle.coda_walk.specs.Going.{blocks_of, is_listed}
use Rattle.coda_walk.specs.Laws.{Among}
use Rattle.coda_walk.specs.Planning.{fids_of, item_at}
use Rattle.coda_walk.specs.Climbing.{blocks_at, blocks_on}
use Rattle.coda_walk.proofs.Lists.{filter_alike}
use Rattle.coda_walk.proofs.Ways.{AreNew, or_later}

-- the test of fids the other way round
pub same_turned : (a b : Fid) → same_fid a b ≡ same_fid b a
same_turned a b = (elim (same_fid b a) as (λ x. same_fid b a ≡ x → same_fid a b ≡ x) [
  | true ↦ λ h. subst (λ c. same_fid a c ≡ true) (sym (same_fid_is b a h)) (same_fid_refl a)
  | false ↦ λ h. false_from_ne_true _ (λ t. both_ways _ h (subst (λ c. same_fid b c ≡ true) (sym (same_fid_is a b t)) (same_fid_refl b)))
]) refl

abbrev pub blocks_by : List Item → (Fid → Bool) → ℕ
blocks_by items test = blocks_of (filter (λ (i : Item). test i.fid) items)

-- of no item that is w's
no_other : (w : Fid) (test : Fid → Bool) (items : List Item) → AllByRecursion (λ y. same_fid w y ≡ false) (fids_of items) → blocks_by items (λ f. same_fid w f || test f) ≡ blocks_by items test
no_other w test [] h = refl
no_other w test (i ∷ items) h =
    ap (λ b. blocks_of (cond (b || test i.fid) (i ∷ filter (λ (j : Item). same_fid w j.fid || test j.fid) items) (filter (λ (j : Item). same_fid w j.fid || test j.fid) items))) h.0
    ∙ (let rest = no_other w test items h.1 in elim (test i.fid) as (λ b. blocks_of (cond b (i ∷ filter (λ (j : Item). same_fid w j.fid || test j.fid) items) (filter (λ (j : Item). same_fid w j.fid || test j.fid) items)) ≡ blocks_of (cond b (i ∷ filter (λ (j : Item). test j.fid) items) (filter (λ (j : Item). test j.fid) items))) [
      | true ↦ ap (λ n. i.blocks + n) rest
      | false ↦ rest
    ])

-- one fid more
one_more : (w : Fid) (test : Fid → Bool) (items : List Item) → IsDistinct same_fid (fids_of items) → test w ≡ false → blocks_by items (λ f. same_fid w f || test f) ≡ blocks_at items w + blocks_by items test
unfolding IsDistinct
one_more w test [] h out = refl
one_more w test (i ∷ items) h out = (elim (same_fid i.fid w) as (λ b. same_fid i.fid w ≡ b → blocks_by (i ∷ items) (λ f. same_fid w f || test f) ≡ option_map_or (λ (j : Item). j.blocks) (cond b (Some i) (item_at items w)) 0 + blocks_by (i ∷ items) test) [
  | true ↦ λ t.
      let is = same_fid_is i.fid w t in
      let head : (same_fid w i.fid || test i.fid) ≡ true = ap (λ b. b || test i.fid) (same_turned w i.fid ∙ t) in
      let tail : test i.fid ≡ false = ap test is ∙ out in
      let rest = no_other w test items (subst (λ v. AllByRecursion (λ y. same_fid v y ≡ false) (fids_of items)) is h.0) in
      ap (λ b. blocks_of (cond b (i ∷ filter (λ (j : Item). same_fid w j.fid || test j.fid) items) (filter (λ (j : Item). same_fid w j.fid || test j.fid) items))) head
      ∙ ap (λ n. i.blocks + n) rest
      ∙ ap (λ b. i.blocks + blocks_of (cond b (i ∷ filter (λ (j : Item). test j.fid) items) (filter (λ (j : Item). test j.fid) items))) (sym tail)
  | false ↦ λ t.
      let rest = one_more w test items h.1 out in
      ap (λ b. blocks_of (cond (b || test i.fid) (i ∷ filter (λ (j : Item). same_fid w j.fid || test j.fid) items) (filter (λ (j : Item). same_fid w j.fid || test j.fid) items))) (same_turned w i.fid ∙ t)
      ∙ (elim (test i.fid) as (λ b. blocks_of (cond b (i ∷ filter (λ (j : Item). same_fid w j.fid || test j.fid) items) (filter (λ (j : Item). same_fid w j.fid || test j.fid) items)) ≡ blocks_at items w + blocks_of (cond b (i ∷ filter (λ (j : Item). test j.fid) items) (filter (λ (j : Item). test j.fid) items))) [
        | true ↦ omega (arith, rest)
        | false ↦ rest
      ])
]) refl

or_swap : (a b c : Bool) → (a || (b || c)) ≡ (b || (a || c))
or_swap true true c = refl
or_swap true false c = refl
or_swap false b c = refl

-- some new fids more
pub all_more : (test : Fid → Bool) (items : List Item) → IsDistinct same_fid (fids_of items) → (fids : List Fid) → AreNew test fids → blocks_by items (λ f. test f || is_listed fids f) ≡ blocks_by items test + blocks_on items fids
all_more test items d [] new = ap blocks_of (filter_alike (λ i. test i.fid || false) (λ i. test i.fid) (λ i. or_none (test i.fid)) items) ∙ sum_none (blocks_by items test)
  where
    or_none : (b : Bool) → (b || false) ≡ b
    or_none true = refl
    or_none false = refl

    sum_none : (n : ℕ) → n ≡ n + 0
    sum_none n = omega arith
all_more test items d (w ∷ fids) new =
    let more = one_more w (λ f. test f || is_listed fids f) items d (neither (test w) (is_listed fids w) new.0 new.1.0) in
    let rest = all_more test items d fids new.1.1 in
    ap blocks_of (filter_alike (λ i. test i.fid || (same_fid w i.fid || is_listed fids i.fid)) (λ i. same_fid w i.fid || (test i.fid || is_listed fids i.fid)) (λ i. or_swap (test i.fid) (same_fid w i.fid) (is_listed fids i.fid)) items)
    ∙ omega (arith, more, rest)
  where
    neither : (a b : Bool) → a ≡ false → b ≡ false → (a || b) ≡ false
    neither a b f g = ap (λ x. x || b) f ∙ g

-- ---- items and their fids

-- the item of a fid is among the items, and is of that fid
pub item_among : (items : List Item) (f : Fid) (i : Item) → item_at items f ≡ Some i → Among i items × (i.fid ≡ f)
item_among [] f i e = absurd (none-some i e)
item_among (j ∷ items) f i e = (elim (same_fid j.fid f) as (λ b. same_fid j.fid f ≡ b → cond b (Some j) (item_at items f) ≡ Some i → Among i (j ∷ items) × (i.fid ≡ f)) [
  | true ↦ λ t k. let same = same_Some j i k in (inl same, ap (λ (x : Item). x.fid) (sym same) ∙ same_fid_is j.fid f t)
  | false ↦ λ t k. let r = item_among items f i k in (inr r.0, r.1)
]) refl e

apart_from : (k : Fid) (items : List Item) (i : Item) → AllByRecursion (λ y. same_fid k y ≡ false) (fids_of items) → Among i items → same_fid k i.fid ≡ false
apart_from k [] i all h = absurd h
apart_from k (j ∷ items) i all (inl same) = ap (λ (x : Item). same_fid k x.fid) (sym same) ∙ all.0
apart_from k (j ∷ items) i all (inr later) = apart_from k items i all.1 later

-- an item is that of its fid
pub item_is : (items : List Item) → IsDistinct same_fid (fids_of items) → (i : Item) → Among i items → item_at items i.fid ≡ Some i
unfolding IsDistinct
item_is [] d i h = absurd h
item_is (j ∷ items) d i (inl same) = ap (λ (x : Item). item_at (j ∷ items) x.fid) (sym same) ∙ ap (λ b. cond b (Some j) (item_at items j.fid)) (same_fid_refl j.fid) ∙ ap Some same
item_is (j ∷ items) d i (inr later) = ap (λ b. cond b (Some j) (item_at items i.fid)) (apart_from j.fid items i d.0 later) ∙ item_is items d.1 i later

-- the fids of those that pass a test
pub listed_from : (test : Item → Bool) (items : List Item) (i : Item) → Among i items → test i ≡ true → is_listed (fids_of (filter test items)) i.fid ≡ true
listed_from test [] i h t = absurd h
listed_from test (j ∷ items) i (inl same) t =
    ap (λ b. is_listed (fids_of (cond b (j ∷ filter test items) (filter test items))) i.fid) (ap test same ∙ t)
    ∙ ap (λ b. b || is_listed (fids_of (filter test items)) i.fid) (ap (λ (x : Item). same_fid j.fid x.fid) (sym same) ∙ same_fid_refl j.fid)
listed_from test (j ∷ items) i (inr later) t =
    elim (test j) as (λ b. is_listed (fids_of (cond b (j ∷ filter test items) (filter test items))) i.fid ≡ true) [
      | true ↦ or_later (same_fid j.fid i.fid) _ (listed_from test items i later t)
      | false ↦ listed_from test items i later t
    ]

pub from_listed : (test : Item → Bool) (items : List Item) (f : Fid) → is_listed (fids_of (filter test items)) f ≡ true → (i : Item) × Among i items × ((test i ≡ true) × (i.fid ≡ f))
from_listed test [] f h = cc
from_listed test (j ∷ items) f h = (elim (test j) as (λ b. test j ≡ b → is_listed (fids_of (cond b (j ∷ filter test items) (filter test items))) f ≡ true → (i : Item) × Among i (j ∷ items) × ((test i ≡ true) × (i.fid ≡ f))) [
  | true ↦ λ t k. (elim (same_fid j.fid f) as (λ b. same_fid j.fid f ≡ b → (b || is_listed (fids_of (filter test items)) f) ≡ true → (i : Item) × Among i (j ∷ items) × ((test i ≡ true) × (i.fid ≡ f))) [
    | true ↦ λ s _. (j, inl refl, (t, same_fid_is j.fid f s))
    | false ↦ λ s l. let r = from_listed test items f l in (r.0, inr r.1, r.2)
  ]) refl k
  | false ↦ λ t k. let r = from_listed test items f k in (r.0, inr r.1, r.2)
]) refl h

-- tests that answer alike of all items leave the same
pub filter_same : (one other : Item → Bool) (items : List Item) → ((i : Item) → Among i items → one i ≡ other i) → filter one items ≡ filter other items
filter_same one other [] same = refl
filter_same one other (i ∷ items) same =
    ap (λ b. cond b (i ∷ filter one items) (filter one items)) (same i (inl refl)) ∙ ap (λ l. cond (other i) (i ∷ l) l) (filter_same one other items (λ j h. same j (inr h)))
