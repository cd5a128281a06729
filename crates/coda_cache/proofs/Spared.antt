-- Who goes is found among those that need not stay, where those that stay stand under none of them.
use Rattle.std.proofs.Common.{◌≡◌, ℕ, zero, suc, ◌+◌, ◌≤◌, Bool, true, false, cond, not, ◌&&◌, ◌||◌, List, [], ◌∷◌, length, Option, Some, None, refl, sym, ap, ◌∙◌, subst, inl, inr, arith}
use Rattle.std.specs.Prelude.{nat_le}
use Rattle.std.specs.Option.{option_map_or}
use Rattle.std.specs.List.{filter, list_any}
use Rattle.std.proofs.lemmas.Bool.{both_ways, leb-true, leb-false, le-leb, lt-leb}
use Rattle.coda_fid.specs.declared.fid.Fid.{Fid}
use Rattle.coda_fid.specs.Fid.{same_fid}
use Rattle.coda_fid.proofs.Fids.{same_fid_is, same_fid_refl}
use Rattle.coda_walk.specs.declared.item.Item.{Item}
use Rattle.coda_walk.specs.Going.{blocks_of, is_listed, is_under, may_go, first_to_go, without, going_within, who_goes}
use Rattle.coda_walk.specs.Laws.{Among}
use Rattle.coda_walk.proofs.Lists.{in_filter, from_filter, filter_length, shorter, any_from, from_any, first_among}

-- whether an item is kept, and whether it isn't
abbrev pub is_held : List Fid → Item → Bool
is_held kept i = is_listed kept i.fid

abbrev pub is_spare : List Fid → Item → Bool
is_spare kept i = not (is_listed kept i.fid)

-- whether nothing stands under an item
abbrev is_bare : List Item → Item → Bool
is_bare items i = not (list_any (is_under i.fid) items)

-- who goes in turn of items that all may, until what is left passes
abbrev in_turn : ℕ → (ℕ → Bool) → List Item → List Fid
in_turn zero enough items = []
in_turn (suc steps) enough items = cond (enough (blocks_of items)) [] (option_map_or (λ (i : Item). i.fid ∷ in_turn steps enough (without i.fid items)) (first_to_go (filter (is_bare items) items)) [])

-- ---- filters

filter_on : (one other : Item → Bool) (items : List Item) → ((i : Item) → Among i items → one i ≡ other i) → filter one items ≡ filter other items
filter_on one other [] same = refl
filter_on one other (i ∷ items) same = λ k. cond (same i (inl refl) k) (i ∷ filter_on one other items (λ j h. same j (inr h)) k) (filter_on one other items (λ j h. same j (inr h)) k)

filter_both : (one other : Item → Bool) (items : List Item) → filter (λ i. one i && other i) items ≡ filter other (filter one items)
filter_both one other [] = refl
filter_both one other (i ∷ items) = elim (one i) as (λ b. cond (b && other i) (i ∷ filter (λ j. one j && other j) items) (filter (λ j. one j && other j) items) ≡ filter other (cond b (i ∷ filter one items) (filter one items))) [
  | true ↦ λ k. cond (other i) (i ∷ filter_both one other items k) (filter_both one other items k)
  | false ↦ filter_both one other items
]

filter_turned : (one other : Item → Bool) (items : List Item) → filter one (filter other items) ≡ filter other (filter one items)
filter_turned one other items = sym (filter_both other one items) ∙ filter_on (λ i. other i && one i) (λ i. one i && other i) items (λ i _. turned (other i) (one i)) ∙ filter_both one other items
  where
    turned : (a b : Bool) → (a && b) ≡ (b && a)
    turned true true = refl
    turned true false = refl
    turned false true = refl
    turned false false = refl

pub parted : (test : Item → Bool) (items : List Item) → blocks_of items ≡ blocks_of (filter (λ i. not (test i)) items) + blocks_of (filter test items)
parted test [] = refl
parted test (i ∷ items) =
    let rest = parted test items in
    elim (test i) as (λ b. i.blocks + blocks_of items ≡ blocks_of (cond (not b) (i ∷ filter (λ j. not (test j)) items) (filter (λ j. not (test j)) items)) + blocks_of (cond b (i ∷ filter test items) (filter test items))) [
      | true ↦ omega (arith, rest)
      | false ↦ omega (arith, rest)
    ]

-- what doesn't pass is filtered out again
filter_less : (test other : Item → Bool) (items : List Item) → ((i : Item) → test i ≡ true → other i ≡ true) → filter test (filter other items) ≡ filter test items
filter_less test other items pass = sym (filter_both other test items) ∙ filter_on (λ i. other i && test i) test items (λ i _. less (test i) (other i) (pass i))
  where
    less : (a b : Bool) → (a ≡ true → b ≡ true) → (b && a) ≡ a
    less true b h = ap (λ x. x && true) (h refl)
    less false true h = refl
    less false false h = refl

not_true : (a : Bool) → not a ≡ true → a ≡ false
not_true true h = absurd (both_ways _ refl h)
not_true false h = refl

-- ---- those that stay are left aside

module _ (kept : List Fid) where
  -- no item is pinned, and those that are kept stand under kept ones
  pub record Closed (items : List Item) : Type 0 where
    pub free : (i : Item) → Among i items → i.pinned ≡ false
    pub above : (i : Item) (p : Fid) → Among i items → is_held kept i ≡ true → i.parent ≡ Some p → is_listed kept p ≡ true

  fewer : (f : Fid) (items : List Item) → Closed items → Closed (without f items)
  fewer f items c = record {
    free = λ i h. c.free i (from_filter (λ i. not (same_fid i.fid f)) items i h).0;
    above = λ i p h. c.above i p (from_filter (λ i. not (same_fid i.fid f)) items i h).0;
  }

  -- what stands under an item that isn't kept isn't kept
  under_spare : (i : Item) (items : List Item) → Closed items → is_spare kept i ≡ true → list_any (is_under i.fid) items ≡ list_any (is_under i.fid) (filter (is_spare kept) items)
  under_spare i items c spare = go (list_any (is_under i.fid) items) (list_any (is_under i.fid) (filter (is_spare kept) items))
      (λ h. let j = from_any (is_under i.fid) items h in any_from (is_under i.fid) (filter (is_spare kept) items) j.0 (in_filter (is_spare kept) items j.0 j.1 (spares j.0 j.1 j.2)) j.2)
      (λ h. let j = from_any (is_under i.fid) (filter (is_spare kept) items) h in any_from (is_under i.fid) items j.0 (from_filter (is_spare kept) items j.0 j.1).0 j.2)
    where
      go : (a b : Bool) → (a ≡ true → b ≡ true) → (b ≡ true → a ≡ true) → a ≡ b
      go true b there back = sym (there refl)
      go false true there back = back refl
      go false false there back = refl

      stands : (o : Option Fid) → option_map_or (λ p. same_fid p i.fid) o false ≡ true → o ≡ Some i.fid
      stands None h = absurd (both_ways _ refl h)
      stands (Some p) h = ap Some (same_fid_is p i.fid h)

      spares : (j : Item) → Among j items → is_under i.fid j ≡ true → is_spare kept j ≡ true
      spares j h under = (elim (is_held kept j) as (λ b. is_held kept j ≡ b → not b ≡ true) [
        | true ↦ λ held. absurd (both_ways _ (ap not (c.above j i.fid h held (stands j.parent under))) spare)
        | false ↦ λ _. refl
      ]) refl

  next_is : (items : List Item) → Closed items → filter (may_go kept items) items ≡ filter (is_bare (filter (is_spare kept) items)) (filter (is_spare kept) items)
  next_is items c =
      filter_on (may_go kept items) (λ i. is_spare kept i && is_bare (filter (is_spare kept) items) i) items (λ i h. ap (λ b. not (b || is_listed kept i.fid) && is_bare items i) (c.free i h) ∙ spare_only i (is_spare kept i) refl)
      ∙ filter_both (is_spare kept) (is_bare (filter (is_spare kept) items)) items
    where
      spare_only : (i : Item) (b : Bool) → is_spare kept i ≡ b → (b && is_bare items i) ≡ (b && is_bare (filter (is_spare kept) items) i)
      spare_only i true e = ap not (under_spare i items c e)
      spare_only i false e = refl

  -- the blocks of those that are kept
  abbrev pub held_blocks : List Item → ℕ
  held_blocks items = blocks_of (filter (is_held kept) items)

  reduces : (steps size : ℕ) (items : List Item) → Closed items → going_within steps size kept items ≡ in_turn steps (λ left. nat_le (left + held_blocks items) size) (filter (is_spare kept) items)
  reduces zero size items c = refl
  reduces (suc steps) size items c =
      let spare = filter (is_spare kept) items in
      λ k. cond (nat_le (parted (is_held kept) items k) size) []
      (((λ l. option_map_or (λ (i : Item). i.fid ∷ going_within steps size kept (without i.fid items)) (first_to_go (next_is items c l)) []) ∙ rest (λ f. reduces steps size (without f items) (fewer f items c)) (first_to_go (filter (is_bare spare) spare)) refl) k)
    where
      rest : ((f : Fid) → going_within steps size kept (without f items) ≡ in_turn steps (λ left. nat_le (left + held_blocks (without f items)) size) (filter (is_spare kept) (without f items))) → (o : Option Item) → first_to_go (filter (is_bare (filter (is_spare kept) items)) (filter (is_spare kept) items)) ≡ o →
          option_map_or (λ (i : Item). i.fid ∷ going_within steps size kept (without i.fid items)) o []
          ≡ option_map_or (λ (i : Item). i.fid ∷ in_turn steps (λ left. nat_le (left + held_blocks items) size) (without i.fid (filter (is_spare kept) items))) o []
      rest more None is = refl
      rest more (Some i) is =
          let among = from_filter (is_spare kept) items i (from_filter (is_bare (filter (is_spare kept) items)) (filter (is_spare kept) items) i (first_among (filter (is_bare (filter (is_spare kept) items)) (filter (is_spare kept) items)) i is)).0 in
          let same : filter (is_held kept) (without i.fid items) ≡ filter (is_held kept) items = filter_less (is_held kept) (λ j. not (same_fid j.fid i.fid)) items (other i (not_true _ among.1)) in
          ap (λ l. i.fid ∷ l) (more i.fid
          ∙ (λ k. in_turn steps (λ left. nat_le (left + blocks_of (same k)) size) (filter_turned (is_spare kept) (λ j. not (same_fid j.fid i.fid)) items k)))
        where
          other : (i : Item) → is_held kept i ≡ false → (j : Item) → is_held kept j ≡ true → not (same_fid j.fid i.fid) ≡ true
          other i free j held = (elim (same_fid j.fid i.fid) as (λ b. same_fid j.fid i.fid ≡ b → not b ≡ true) [
            | true ↦ λ e. absurd (both_ways _ free (ap (is_listed kept) (sym (same_fid_is j.fid i.fid e)) ∙ held))
            | false ↦ λ _. refl
          ]) refl

-- ---- steps enough

none_in_turn : (steps : ℕ) (enough : ℕ → Bool) → in_turn steps enough [] ≡ []
none_in_turn zero enough = refl
none_in_turn (suc steps) enough = elim (enough 0) as (λ b. cond {A = List Fid} b [] [] ≡ []) [ true ↦ refl | false ↦ refl ]

same_turns : (one other : ℕ) (enough : ℕ → Bool) (items : List Item) → length items ≤ one → length items ≤ other → in_turn one enough items ≡ in_turn other enough items
same_turns zero other enough [] few few2 = sym (none_in_turn other enough)
same_turns zero other enough (i ∷ items) few few2 = absurd (omega (arith, few))
same_turns (suc one) zero enough [] few few2 = none_in_turn (suc one) enough
same_turns (suc one) zero enough (i ∷ items) few few2 = absurd (omega (arith, few2))
same_turns (suc one) (suc other) enough items few few2 = ap (cond (enough (blocks_of items)) []) (rest (λ f. same_turns one other enough (without f items)) (first_to_go (filter (is_bare items) items)) refl)
  where
    rest : ((f : Fid) → length (without f items) ≤ one → length (without f items) ≤ other → in_turn one enough (without f items) ≡ in_turn other enough (without f items)) → (o : Option Item) → first_to_go (filter (is_bare items) items) ≡ o → option_map_or (λ (i : Item). i.fid ∷ in_turn one enough (without i.fid items)) o [] ≡ option_map_or (λ (i : Item). i.fid ∷ in_turn other enough (without i.fid items)) o []
    rest more None is = refl
    rest more (Some i) is =
        let among = from_filter (is_bare items) items i (first_among (filter (is_bare items) items) i is) in
        let less = shorter (λ j. not (same_fid j.fid i.fid)) items i among.0 (ap not (same_fid_refl i.fid)) in
        ap (λ l. i.fid ∷ l) (more i.fid (omega (arith, few, less)) (omega (arith, few2, less)))

fits_same : (x y s t e l : ℕ) → y + l ≡ x + e → t + l ≡ s + e → nat_le x s ≡ nat_le y t
fits_same x y s t e l sums sizes = (elim (nat_le x s) as (λ b. nat_le x s ≡ b → b ≡ nat_le y t) [
  | true ↦ λ h. let le = leb-true x s h in sym (le-leb y t (omega (arith, le, sums, sizes)))
  | false ↦ λ h. let lt = leb-false x s h in sym (lt-leb y t (omega (arith, lt, sums, sizes)))
]) refl

-- The same go of items where those that need not stay are the same, and as many blocks are left beside those that do.
pub who_goes_of_spare : (one other : List Fid) (size room : ℕ) (items more : List Item) → Closed one items → Closed other more → filter (is_spare one) items ≡ filter (is_spare other) more → size + held_blocks other more ≡ room + held_blocks one items →
    who_goes size one items ≡ who_goes room other more
unfolding who_goes
who_goes_of_spare one other size room items more c d same sizes =
    let few = filter_length (is_spare one) items in
    let few2 = filter_length (is_spare other) more in
    reduces one (length items) size items c
    ∙ (λ k. in_turn (length items) (λ left. fits_same (left + held_blocks one items) (left + held_blocks other more) size room (held_blocks other more) (held_blocks one items) (turned left (held_blocks one items) (held_blocks other more)) (sym sizes) k) (same k))
    ∙ same_turns (length items) (length more) (λ left. nat_le (left + held_blocks other more) room) (filter (is_spare other) more) (subst (λ l. length l ≤ length items) same few) few2
    ∙ sym (reduces other (length more) room more d)
  where
    turned : (x y z : ℕ) → (x + z) + y ≡ (x + y) + z
    turned x y z = omega arith
