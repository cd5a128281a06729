-- Who goes is right.
use Rattle.std.proofs.Common.{◌≡◌, ℕ, zero, suc, ◌+◌, ◌<◌, ◌≤◌, Bool, true, false, cond, not, List, [], ◌∷◌, ◌++◌, length, Option, Some, None, refl, sym, ap, ◌∙◌, subst, arith}
use Rattle.std.specs.Prelude.{nat_le}
use Rattle.std.specs.Option.{option_map_or}
use Rattle.std.specs.List.{list_any}
use Rattle.std.proofs.lemmas.Bool.{leb-true, leb-false, not-true, and_parts, and_from, or_from, both_ways, not_from_false, not_from_true, false_from_ne_true}
use Rattle.coda_fid.specs.declared.fid.Fid.{Fid}
use Rattle.coda_fid.specs.Fid.{same_fid}
use Rattle.coda_fid.proofs.Fids.{same_fid_is, same_fid_refl}
use Rattle.coda_walk.specs.declared.item.Item.{Item}
use Rattle.coda_walk.specs.Going.{blocks_of, is_listed, is_under, stays, may_go, without, next_to_go, going_within, who_goes}
use Rattle.coda_walk.specs.Laws.{Among, left, MakesRoom, GoRightly}
use Rattle.coda_walk.proofs.Lists.{in_filter, from_filter, filter_blocks, all_left, shorter, any_from, from_any, first_among, no_first, left_among}

abbrev other : Fid → Item → Bool
other f j = not (same_fid j.fid f)

-- an item with a parent is under it, and only under it
under_parent : (i : Item) (p : Fid) → i.parent ≡ Some p → is_under p i ≡ true
under_parent i p h = ap (λ o. option_map_or (λ q. same_fid q p) o false) h ∙ same_fid_refl p

parent_of_under : (i : Item) (f : Fid) → is_under f i ≡ true → i.parent ≡ Some f
parent_of_under i f h = go i.parent refl h
  where
    go : (o : Option Fid) → i.parent ≡ o → option_map_or (λ q. same_fid q f) o false ≡ true → i.parent ≡ Some f
    go None e t = cc
    go (Some q) e t = e ∙ ap Some (same_fid_is q f t)

-- one that doesn't go with f stays among the others
others_left : (f : Fid) (items : List Item) (i : Item) → Among i items → (i.fid ≡ f → ⊥) → Among i (without f items)
others_left f items i h apart = in_filter (other f) items i h (not_from_false _ (false_from_ne_true _ (λ t. apart (same_fid_is i.fid f t))))

-- room can still be made among the others
still_room : (size : ℕ) (kept : List Fid) (items : List Item) (f : Fid) → MakesRoom size kept items → MakesRoom size kept (without f items)
still_room size kept items f r = record {
  once = λ i j h k same. r.once i j (was i h) (was j k) same;
  depth = r.depth;
  deepest = r.deepest;
  bounded = λ i h. r.bounded i (was i h);
  deeper = λ i p h e. r.deeper i p (was i h) e;
  held = λ i j h k e s. r.held i j (was i h) (was j k) e s;
  fit = let less = filter_blocks (other f) (stays kept) items in let fit = r.fit in omega (arith, less, fit);
}
  where
    was : (i : Item) → Among i (without f items) → Among i items
    was i h = (from_filter (other f) items i h).0

-- where nobody may go, everybody stays: else a deeper one under each that doesn't would not stay either, without end
climb : (size : ℕ) (kept : List Fid) (items : List Item) → MakesRoom size kept items → ((i : Item) → Among i items → may_go kept items i ≡ false) →
    (n : ℕ) (i : Item) (r : Fid → ℕ) (top : ℕ) → ((j : Item) → Among j items → r j.fid < top) → ((j : Item) (p : Fid) → Among j items → j.parent ≡ Some p → r p < r j.fid) →
    Among i items → stays kept i ≡ false → top ≤ r i.fid + n → ⊥
climb size kept items room nobody zero i r top below deeper h not far = let b = below i h in omega (arith, b, far)
climb size kept items room nobody (suc n) i r top below deeper h not far =
    (elim (list_any (is_under i.fid) items) as (λ b. list_any (is_under i.fid) items ≡ b → ⊥) [
      | true ↦ λ t.
          let under = from_any (is_under i.fid) items t in
          let e = parent_of_under under.0 i.fid under.2 in
          let d = deeper under.0 i.fid under.1 e in
          let free : stays kept under.0 ≡ false = false_from_ne_true _ (λ s. both_ways _ not (room.held i under.0 h under.1 e s)) in
          climb size kept items room nobody n under.0 r top below deeper under.1 free (omega (arith, d, far))
      | false ↦ λ t. both_ways _ (nobody i h) (and_from _ _ (not_from_false _ not) (not_from_false _ t))
    ]) refl

everybody_stays : (size : ℕ) (kept : List Fid) (items : List Item) → MakesRoom size kept items → next_to_go kept items ≡ None → (i : Item) → Among i items → stays kept i ≡ true
everybody_stays size kept items room none i h =
    (elim (stays kept i) as (λ b. stays kept i ≡ b → b ≡ true) [
      | true ↦ λ t. refl
      | false ↦ λ t. absurd (climb size kept items room nobody room.deepest i room.depth room.deepest room.bounded room.deeper h t (omega arith))
    ]) refl
  where
    nobody : (j : Item) → Among j items → may_go kept items j ≡ false
    nobody j k = false_from_ne_true _ (λ m. no_first _ none j (in_filter (may_go kept items) items j k m))

-- the next to go is one that may
pub record Next (kept : List Fid) (items : List Item) (i : Item) : Type 0 where
  pub there : Among i items
  pub free : stays kept i ≡ false
  pub bare : list_any (is_under i.fid) items ≡ false

pub next_may : (kept : List Fid) (items : List Item) (i : Item) → next_to_go kept items ≡ Some i → Next kept items i
next_may kept items i e =
    let from = from_filter (may_go kept items) items i (first_among _ i e) in
    let parts = and_parts (not (stays kept i)) (not (list_any (is_under i.fid) items)) from.1 in
    record { there = from.0; free = not-true _ parts.0; bare = not-true _ parts.1 }

-- among nobody is no last one
none_last : (size : ℕ) (items : List Item) (front : List Fid) (last : Fid) → [] ≡ front ++ last ∷ [] → size < blocks_of (left front items)
none_last size items [] last e = cc
none_last size items (f ∷ front) last e = cc

-- nobody goes
nobody_goes : (size : ℕ) (kept : List Fid) (items : List Item) → blocks_of items ≤ size → GoRightly size kept items []
nobody_goes size kept items fits = record {
  spared = λ i h s. h;
  whole = λ i p h e. refl;
  fits = fits;
  needed = none_last size items;
}

-- one goes, and then others
one_goes : (size : ℕ) (kept : List Fid) (items : List Item) (i : Item) (gone : List Fid) → MakesRoom size kept items → Next kept items i → size < blocks_of items →
    GoRightly size kept (without i.fid items) gone → GoRightly size kept items (i.fid ∷ gone)
one_goes size kept items i gone room next full rest = record {
  spared = λ j h s. rest.spared j (others_left i.fid items j h (λ same. both_ways (stays kept i) next.free (ap (stays kept) (room.once i j next.there h (sym same)) ∙ s))) s;
  whole = λ j p h e. or_from (same_fid i.fid p) (is_listed gone p)
      (false_from_ne_true _ (λ t. both_ways _ next.bare (any_from (is_under i.fid) items j (left_among (i.fid ∷ gone) items j h) (under_parent j i.fid (e ∙ ap Some (sym (same_fid_is i.fid p t)))))))
      (rest.whole j p h e);
  fits = rest.fits;
  needed = needed;
}
  where
    needed : (front : List Fid) (last : Fid) → i.fid ∷ gone ≡ front ++ last ∷ [] → size < blocks_of (left front items)
    needed [] last e = full
    needed (f ∷ front) last e =
        let head : i.fid ≡ f = cc in
        let tail : gone ≡ front ++ last ∷ [] = cc in
        subst (λ g. size < blocks_of (left front (without g items))) head (rest.needed front last tail)

pub goes_rightly : (steps size : ℕ) (kept : List Fid) (items : List Item) → length items ≤ steps → MakesRoom size kept items → GoRightly size kept items (going_within steps size kept items)
goes_rightly zero size kept items few room = nobody_goes size kept items (none_fit items few)
  where
    none_fit : (is : List Item) → length is ≤ 0 → blocks_of is ≤ size
    none_fit [] l = omega arith
    none_fit (i ∷ is) l = absurd (omega (arith, l))
goes_rightly (suc steps) size kept items few room =
    (elim (nat_le (blocks_of items) size) as (λ b. nat_le (blocks_of items) size ≡ b → GoRightly size kept items (cond b [] (option_map_or (λ (i : Item). i.fid ∷ going_within steps size kept (without i.fid items)) (next_to_go kept items) []))) [
      | true ↦ λ t. nobody_goes size kept items (leb-true _ _ t)
      | false ↦ λ t. (elim (next_to_go kept items) as (λ o. next_to_go kept items ≡ o → GoRightly size kept items (option_map_or (λ (i : Item). i.fid ∷ going_within steps size kept (without i.fid items)) o [])) [
        | None ↦ λ e.
            let fit = room.fit in
            nobody_goes size kept items (subst (λ n. n ≤ size) (ap blocks_of (all_left (stays kept) items (everybody_stays size kept items room e))) fit)
        | Some i ↦ λ e.
            let next = next_may kept items i e in
            let less = shorter (other i.fid) items i next.there (not_from_true _ (same_fid_refl i.fid)) in
            one_goes size kept items i _ room next (leb-false _ _ t) (goes_rightly steps size kept (without i.fid items) (omega (arith, less, few)) (still_room size kept items i.fid room))
      ]) refl
    ]) refl

pub who_goes_rightly : (size : ℕ) (kept : List Fid) (items : List Item) → MakesRoom size kept items → GoRightly size kept items (who_goes size kept items)
unfolding who_goes
who_goes_rightly size kept items room = goes_rightly (length items) size kept items (omega arith) room
