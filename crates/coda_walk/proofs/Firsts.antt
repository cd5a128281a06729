-- The item that goes next goes before all others that may go.
use Rattle.std.specs.Prelude.{◌⊎◌}
use Rattle.std.proofs.Common.{◌≡◌, ℕ, zero, suc, ◌<◌, ◌≤◌, Bool, true, false, cond, ◌||◌, ◌&&◌, List, [], ◌∷◌, ◌++◌, Some, None, nat_lt, length, refl, sym, ap, ◌∙◌, subst, inl, inr, arith, append-nil, append_assoc}
use Rattle.std.specs.Prelude.{nat_le, ◌==◌}
use Rattle.std.specs.Option.{option_map_or}
use Rattle.std.specs.Ordering.{is_gt, ordering_reverse}
use Rattle.std.specs.declared.cmp.Ordering.{Ordering}
use Rattle.std.specs.declared.cmp.Ordering.TheVariants.{Less, Equal, Greater}
use Rattle.std.specs.List.{filter, best_of}
use Rattle.std.proofs.lemmas.Bool.{both_ways, ltb-true, ltb-false, eqb-true, eq-eqb, lt-ltb}
use Rattle.std.proofs.lemmas.Option.{same_Some}
use Rattle.coda_fid.specs.declared.fid.Fid.{Fid}
use Rattle.coda_fid.specs.Fid.{fid_cmp}
use Rattle.coda_fid.proofs.Fids.{fids_total, exact_fids}
use Rattle.coda_walk.specs.declared.item.Item.{Item}
use Rattle.coda_walk.specs.Going.{blocks_of, may_go, goes_before, first_to_go, next_to_go, going_within, who_goes, without}
use Rattle.coda_walk.specs.Laws.{Among, left}
use Rattle.coda_walk.specs.Turns.{AreOnce, IsOlder, Precedes, WithoutPriority, LessRecent, LessPriority, GreaterFid, GoesFirst, GoInTurn}
use Rattle.coda_walk.proofs.Lists.{in_filter, from_filter, first_among}

-- ---- parts of lists

in_first : (i : Item) (xs ys : List Item) → Among i xs → Among i (xs ++ ys)
in_first i [] ys h = absurd h
in_first i (x ∷ xs) ys (inl same) = inl same
in_first i (x ∷ xs) ys (inr later) = inr (in_first i xs ys later)

in_second : (i : Item) (xs ys : List Item) → Among i ys → Among i (xs ++ ys)
in_second i [] ys h = h
in_second i (x ∷ xs) ys h = inr (in_second i xs ys h)

in_either : (i : Item) (xs ys : List Item) → Among i (xs ++ ys) → Among i xs ⊎ Among i ys
in_either i [] ys h = inr h
in_either i (x ∷ xs) ys (inl same) = inl (inl same)
in_either i (x ∷ xs) ys (inr later) = elim (in_either i xs ys later) [ inl h ↦ inl (inr h) | inr h ↦ inr h ]

-- what stands among the first stands before what comes after them
older_than : (seen rest : List Item) (b y : Item) → Among b seen → IsOlder (seen ++ y ∷ rest) b y
older_than [] rest b y h = absurd h
older_than (x ∷ seen) rest b y (inl same) = record { front = []; back = seen ++ y ∷ rest; parts = ap (λ z. z ∷ (seen ++ y ∷ rest)) same; later = in_second y seen (y ∷ rest) (inl refl) }
older_than (x ∷ seen) rest b y (inr h) = let o = older_than seen rest b y h in record { front = x ∷ o.front; back = o.back; parts = ap (λ l. x ∷ l) o.parts; later = o.later }

-- and so it does in the list of which these are some
older_filtered : (test : Item → Bool) (items : List Item) (i j : Item) → IsOlder (filter test items) i j → IsOlder items i j
older_filtered test [] i j o = absurd (no_part o.front o.back i o.parts)
  where
    no_part : (front back : List Item) (i : Item) → [] ≡ front ++ i ∷ back → ⊥
    no_part [] back i e = cc
    no_part (x ∷ front) back i e = cc
older_filtered test (x ∷ items) i j o = (elim (test x) as (λ b. IsOlder (cond b (x ∷ filter test items) (filter test items)) i j → IsOlder (x ∷ items) i j) [
  | true ↦ λ o. here (λ q. older_filtered test items i j q) o.front o.back o.parts o.later
  | false ↦ λ o. later (older_filtered test items i j o)
]) o
  where
    later : IsOlder items i j → IsOlder (x ∷ items) i j
    later o = record { front = x ∷ o.front; back = o.back; parts = ap (λ l. x ∷ l) o.parts; later = o.later }

    here : (IsOlder (filter test items) i j → IsOlder items i j) → (front back : List Item) → (x ∷ filter test items) ≡ front ++ i ∷ back → Among j back → IsOlder (x ∷ items) i j
    here rest [] back e l =
        let head : x ≡ i = cc in
        let tail : filter test items ≡ back = cc in
        record { front = []; back = items; parts = ap (λ z. z ∷ items) head; later = (from_filter test items j (subst (Among j) (sym tail) l)).0 }
    here rest (y ∷ front) back e l =
        let tail : filter test items ≡ front ++ i ∷ back = cc in
        later (rest (record { front = front; back = back; parts = tail; later = l }))

-- ---- two items

zero_or : (n : ℕ) → (n ≡ 0) ⊎ (0 < n)
zero_or zero = inl refl
zero_or (suc n) = inr (omega arith)

-- less priority goes before
by_priority : (items : List Item) (y j : Item) → y.priority < j.priority → Precedes items y j
by_priority items y j less = elim (zero_or y.priority) [
  | inl none ↦ WithoutPriority none (omega (arith, none, less))
  | inr some ↦ LessPriority some less
]

greater_turned : (a b : Fid) → fid_cmp a b ≡ Less → fid_cmp b a ≡ Greater
greater_turned a b less = fids_total.antisymm b a ∙ ap ordering_reverse less

less_turned : (a b : Fid) → fid_cmp a b ≡ Greater → fid_cmp b a ≡ Less
less_turned a b more = fids_total.antisymm b a ∙ ap ordering_reverse more

greater_trans : (a b c : Fid) → fid_cmp a b ≡ Greater → fid_cmp b c ≡ Greater → fid_cmp a c ≡ Greater
greater_trans a b c one two = greater_turned c a (fids_total.trans c b a (less_turned b c two) (less_turned a b one))

is_greater : (r : Ordering) → is_gt r ≡ true → r ≡ Greater
is_greater Less h = absurd (both_ways _ refl h)
is_greater Equal h = absurd (both_ways _ refl h)
is_greater Greater h = refl

-- what the test says where it passes
passes : (y b : Item) → goes_before y b ≡ true → (y.priority < b.priority) ⊎ ((y.priority ≡ b.priority) × (0 < b.priority) × (fid_cmp y.fid b.fid ≡ Greater))
passes y b h = (elim (nat_lt y.priority b.priority) as (λ t. nat_lt y.priority b.priority ≡ t → (t || ((y.priority == b.priority) && (nat_lt 0 b.priority && is_gt (fid_cmp y.fid b.fid)))) ≡ true → (y.priority < b.priority) ⊎ ((y.priority ≡ b.priority) × (0 < b.priority) × (fid_cmp y.fid b.fid ≡ Greater))) [
  | true ↦ λ t _. inl (ltb-true _ _ t)
  | false ↦ λ _ k.
      let first = both (y.priority == b.priority) (nat_lt 0 b.priority && is_gt (fid_cmp y.fid b.fid)) k in
      let second = both (nat_lt 0 b.priority) (is_gt (fid_cmp y.fid b.fid)) first.1 in
      inr (eqb-true _ _ first.0, ltb-true _ _ second.0, is_greater _ second.1)
]) refl h
  where
    both : (a b : Bool) → (a && b) ≡ true → (a ≡ true) × (b ≡ true)
    both true b h = (refl, h)
    both false b h = absurd (both_ways _ refl h)

-- an item that goes before the best so far goes before all that the best goes before
replaces : (items : List Item) (y b j : Item) → goes_before y b ≡ true → (j ≡ b) ⊎ Precedes items b j → Precedes items y j
replaces items y b j h at = go (passes y b h) at
  where
    go : (y.priority < b.priority) ⊎ ((y.priority ≡ b.priority) × (0 < b.priority) × (fid_cmp y.fid b.fid ≡ Greater)) → (j ≡ b) ⊎ Precedes items b j → Precedes items y j
    go (inl less) (inl same) = by_priority items y j (subst (λ n. y.priority < n) (ap (λ (i : Item). i.priority) (sym same)) less)
    go (inl less) (inr (WithoutPriority none some)) = absurd (omega (arith, less, none))
    go (inl less) (inr (LessRecent none other older)) = absurd (omega (arith, less, none))
    go (inl less) (inr (LessPriority some more)) = by_priority items y j (omega (arith, less, more))
    go (inl less) (inr (GreaterFid some equal fid)) = by_priority items y j (omega (arith, less, equal))
    go (inr (equal, some, fid)) (inl same) = GreaterFid (omega (arith, equal, some)) (equal ∙ ap (λ (i : Item). i.priority) (sym same)) (subst (λ (x : Item). fid_cmp y.fid x.fid ≡ Greater) (sym same) fid)
    go (inr (equal, some, fid)) (inr (WithoutPriority none more)) = absurd (omega (arith, none, some))
    go (inr (equal, some, fid)) (inr (LessRecent none other older)) = absurd (omega (arith, none, some))
    go (inr (equal, some, fid)) (inr (LessPriority has more)) = by_priority items y j (omega (arith, equal, more))
    go (inr (equal, some, fid)) (inr (GreaterFid has same more)) = GreaterFid (omega (arith, equal, some)) (equal ∙ same) (greater_trans y.fid b.fid j.fid fid more)

-- an item that doesn't go before the best so far comes after it
comes_after : (items : List Item) (y b : Item) → goes_before y b ≡ false → IsOlder items b y → (y.fid ≡ b.fid → y ≡ b) → (y ≡ b) ⊎ Precedes items b y
comes_after items y b h older once = (elim (nat_lt y.priority b.priority) as (λ t. nat_lt y.priority b.priority ≡ t → (t || ((y.priority == b.priority) && (nat_lt 0 b.priority && is_gt (fid_cmp y.fid b.fid)))) ≡ false → (y ≡ b) ⊎ Precedes items b y) [
  | true ↦ λ _ k. absurd (both_ways _ k refl)
  | false ↦ λ t k. at_least (ltb-false _ _ t) k
]) refl h
  where
    equals : (n m : ℕ) → n ≡ m → (n == m) ≡ true
    equals n m e = eq-eqb n m e

    tied : (0 < b.priority) → y.priority ≡ b.priority → (nat_lt 0 b.priority && is_gt (fid_cmp y.fid b.fid)) ≡ false → (y ≡ b) ⊎ Precedes items b y
    tied some equal k = (elim (fid_cmp y.fid b.fid) as (λ r. fid_cmp y.fid b.fid ≡ r → (nat_lt 0 b.priority && is_gt r) ≡ false → (y ≡ b) ⊎ Precedes items b y) [
      | Less ↦ λ e _. inr (GreaterFid some (sym equal) (greater_turned y.fid b.fid e))
      | Equal ↦ λ e _. inl (once (exact_fids y.fid b.fid e))
      | Greater ↦ λ e n. absurd (both_ways _ n (ap (λ t. t && true) (lt-ltb 0 b.priority some)))
    ]) refl k

    at_least : b.priority ≤ y.priority → ((y.priority == b.priority) && (nat_lt 0 b.priority && is_gt (fid_cmp y.fid b.fid))) ≡ false → (y ≡ b) ⊎ Precedes items b y
    at_least most k = (elim (zero_or b.priority) [
      | inl none ↦ (elim (zero_or y.priority) [
        | inl other ↦ inr (LessRecent none other older)
        | inr some ↦ inr (WithoutPriority none some)
      ])
      | inr some ↦ (elim (nat_lt b.priority y.priority) as (λ t. nat_lt b.priority y.priority ≡ t → (y ≡ b) ⊎ Precedes items b y) [
        | true ↦ λ t. inr (LessPriority some (ltb-true _ _ t))
        | false ↦ λ t.
            let low = ltb-false _ _ t in
            let equal : y.priority ≡ b.priority = omega (arith, low, most) in
            tied some equal (ap (λ e. e && (nat_lt 0 b.priority && is_gt (fid_cmp y.fid b.fid))) (sym (equals y.priority b.priority equal)) ∙ k)
      ]) refl
    ])

-- ---- the best of a list

best_first : (all : List Item) → AreOnce all → (rest seen : List Item) (b : Item) → all ≡ seen ++ rest → Among b seen → ((j : Item) → Among j seen → (j ≡ b) ⊎ Precedes all b j) →
    (j : Item) → Among j all → (j ≡ best_of goes_before b rest) ⊎ Precedes all (best_of goes_before b rest) j
best_first all once [] seen b is among before j h = before j (subst (Among j) (is ∙ append-nil seen) h)
best_first all once (y ∷ rest) seen b is among before j h =
    let parts : all ≡ (seen ++ y ∷ []) ++ rest = is ∙ sym (append_assoc seen (y ∷ []) rest) in
    let y_there : Among y all = subst (Among y) (sym is) (in_second y seen (y ∷ rest) (inl refl)) in
    let b_there : Among b all = subst (Among b) (sym is) (in_first b seen (y ∷ rest) among) in
    (elim (goes_before y b) as (λ t. goes_before y b ≡ t → (j ≡ best_of goes_before (cond t y b) rest) ⊎ Precedes all (best_of goes_before (cond t y b) rest) j) [
      | true ↦ λ t. best_first all once rest (seen ++ y ∷ []) y parts (in_second y seen (y ∷ []) (inl refl)) (λ i at. elim (in_either i seen (y ∷ []) at) [
        | inl old ↦ inr (replaces all y b i t (before i old))
        | inr new ↦ inl (only i y new)
      ]) j h
      | false ↦ λ t. best_first all once rest (seen ++ y ∷ []) b parts (in_first b seen (y ∷ []) among) (λ i at. elim (in_either i seen (y ∷ []) at) [
        | inl old ↦ before i old
        | inr new ↦
            subst (λ x. (x ≡ b) ⊎ Precedes all b x) (sym (only i y new))
            (comes_after all y b t (subst (λ l. IsOlder l b y) (sym is) (older_than seen rest b y among)) (λ same. once y b y_there b_there same))
      ]) j h
    ]) refl
  where
    only : (i y : Item) → Among i (y ∷ []) → i ≡ y
    only i y (inl same) = sym same
    only i y (inr nothing) = absurd nothing

first_of_all : (items : List Item) → AreOnce items → (i : Item) → first_to_go items ≡ Some i → (j : Item) → Among j items → (j ≡ i) ⊎ Precedes items i j
first_of_all [] once i is j h = absurd h
first_of_all (x ∷ items) once i is j h =
    subst (λ b. (j ≡ b) ⊎ Precedes (x ∷ items) b j) (same_Some _ i is)
    (best_first (x ∷ items) once items (x ∷ []) x refl (inl refl) (λ k at. inl (only k x at)) j h)
  where
    only : (i y : Item) → Among i (y ∷ []) → i ≡ y
    only i y (inl same) = sym same
    only i y (inr nothing) = absurd nothing

-- precedence among some is precedence among all
precedes_all : (test : Item → Bool) (items : List Item) (i j : Item) → Precedes (filter test items) i j → Precedes items i j
precedes_all test items i j (WithoutPriority none some) = WithoutPriority none some
precedes_all test items i j (LessRecent none other older) = LessRecent none other (older_filtered test items i j older)
precedes_all test items i j (LessPriority some less) = LessPriority some less
precedes_all test items i j (GreaterFid some equal fid) = GreaterFid some equal fid

pub next_first : (kept : List Fid) (items : List Item) (i : Item) → AreOnce items → next_to_go kept items ≡ Some i → GoesFirst kept items i
next_first kept items i once is =
    let some = filter (may_go kept items) items in
    let there = from_filter (may_go kept items) items i (first_among some i is) in
    record {
      there = there.0;
      free = there.1;
      first = λ j h may. elim (first_of_all some (λ a b p q same. once a b (from_filter (may_go kept items) items a p).0 (from_filter (may_go kept items) items b q).0 same) i is j (in_filter (may_go kept items) items j h may)) [
        | inl same ↦ inl same
        | inr before ↦ inr (precedes_all (may_go kept items) items i j before)
      ];
    }

-- ---- all who go

nobody : (kept : List Fid) (items : List Item) → GoInTurn kept items []
nobody kept items [] back f e = cc
nobody kept items (x ∷ front) back f e = cc

one_then : (kept : List Fid) (items : List Item) (i : Item) (gone : List Fid) → GoesFirst kept items i → GoInTurn kept (without i.fid items) gone → GoInTurn kept items (i.fid ∷ gone)
one_then kept items i gone first rest [] back f e = let head : i.fid ≡ f = cc in (i, head, first)
one_then kept items i gone first rest (x ∷ front) back f e =
    let head : i.fid ≡ x = cc in
    let tail : gone ≡ front ++ f ∷ back = cc in
    subst (λ g. (k : Item) × (k.fid ≡ f) × GoesFirst kept (left front (without g items)) k) head (rest front back f tail)

once_without : (f : Fid) (items : List Item) → AreOnce items → AreOnce (without f items)
once_without f items once a b p q same = once a b (from_filter _ items a p).0 (from_filter _ items b q).0 same

in_turn : (steps size : ℕ) (kept : List Fid) (items : List Item) → AreOnce items → GoInTurn kept items (going_within steps size kept items)
in_turn zero size kept items once = nobody kept items
in_turn (suc steps) size kept items once =
    (elim (nat_le (blocks_of items) size) as (λ b. GoInTurn kept items (cond b [] (option_map_or (λ (i : Item). i.fid ∷ going_within steps size kept (without i.fid items)) (next_to_go kept items) []))) [
      | true ↦ nobody kept items
      | false ↦ (elim (next_to_go kept items) as (λ o. next_to_go kept items ≡ o → GoInTurn kept items (option_map_or (λ (i : Item). i.fid ∷ going_within steps size kept (without i.fid items)) o [])) [
        | None ↦ λ _. nobody kept items
        | Some i ↦ λ e. one_then kept items i (going_within steps size kept (without i.fid items)) (next_first kept items i once e) (in_turn steps size kept (without i.fid items) (once_without i.fid items once))
      ]) refl
    ])

pub who_goes_in_turn : (size : ℕ) (kept : List Fid) (items : List Item) → AreOnce items → GoInTurn kept items (who_goes size kept items)
unfolding who_goes
who_goes_in_turn size kept items once = in_turn (length items) size kept items once
