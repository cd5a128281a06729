-- One goes from a queue, after others.
use Rattle.std.proofs.Common.{◌≡◌, ℕ, zero, suc, ◌+◌, ◌-◌, ◌<◌, ◌≤◌, ◌⊎◌, ◌==◌, Bool, true, false, cond, not, ◌&&◌, ◌||◌, List, [], ◌∷◌, ◌++◌, length, Option, Some, None, refl, sym, ap, ◌∙◌, subst, inl, inr, arith}
use Rattle.std.specs.Prelude as prelude
use Rattle.std.specs.Prelude.{nat_le}
use Rattle.std.specs.Option.{option_map_or}
use Rattle.std.specs.Ordering.{is_gt, nat_cmp, ordering_then, ordering_reverse}
use Rattle.std.specs.declared.cmp.Ordering.TheVariants.{Less, Equal, Greater}
use Rattle.std.specs.List.{filter, list_any}
use Rattle.std.proofs.lemmas.Bool.{both_ways, false_from_ne_true, and_from, and_parts, or_cases, or_parts, or_from, not-true, not_from_false, eqb-true, eq-eqb, ne_eqb, lt-ltb, le-ltb}
use Rattle.std.proofs.lemmas.Option.{none-some, same_Some}
use Rattle.coda_fid.specs.declared.fid.Fid.{Fid}
use Rattle.coda_fid.specs.Fid.{fid_cmp, same_fid}
use Rattle.coda_fid.proofs.Fids.{fids_total, same_fid_is, same_fid_refl}
use Rattle.coda_walk.specs.declared.item.Item.{Item}
use Rattle.coda_walk.specs.declared.rank.Rank.{Rank}
use Rattle.coda_walk.specs.declared.rank.Standing.{Standing}
use Rattle.coda_walk.specs.Going.{blocks_of, is_listed, is_under, stays, may_go, without, next_to_go, going_within, who_goes}
use Rattle.coda_walk.specs.Laws.{Among, left}
use Rattle.coda_walk.specs.Planning.{item_at}
use Rattle.coda_walk.specs.Queue.{same_rank, rank_cmp, rank_of, frees_at, frees, used_at, under_count, one_under, Rises, AreQueued, AreKeyed}
use Rattle.coda_walk.specs.Leaving.{frees_under, AreLeaving, Takes}
use Rattle.coda_walk.specs.Turns.{AreOnce, IsOlder, Precedes, WithoutPriority, LessRecent, LessPriority, GreaterFid, GoesFirst}
use Rattle.coda_walk.proofs.Firsts.{next_first}
use Rattle.coda_walk.proofs.Lists.{shorter, in_filter, no_first}
use Rattle.coda_walk.proofs.Steps.{going_none, going_fits, going_some}
use Rattle.coda_walk.proofs.Goes.{next_may}
use Rattle.coda_walk.proofs.Ranks.{same_rank_is, same_rank_refl, not_above_both}
use Rattle.coda_walk.proofs.Queued.{keyed, found_among, item_left, rises_without, parts, Parts, blocks_mid, count_mid}

-- ---- steps of who goes

next_there : (kept : List Fid) (l : List Item) (i : Item) → next_to_go kept l ≡ Some i → Among i l
next_there kept l i e = (next_may kept l i e).there

alike : (n m size : ℕ) (kept : List Fid) (l : List Item) → length l ≤ n → length l ≤ m → going_within n size kept l ≡ going_within m size kept l
alike zero zero size kept l a b = refl
alike zero (suc m) size kept [] a b = sym (going_none (suc m) size kept [] refl)
alike zero (suc m) size kept (i ∷ l) a b = absurd (omega (arith, a))
alike (suc n) zero size kept [] a b = going_none (suc n) size kept [] refl
alike (suc n) zero size kept (i ∷ l) a b = absurd (omega (arith, b))
alike (suc n) (suc m) size kept l a b = ap (λ o. cond (nat_le (blocks_of l) size) [] o) ((elim (next_to_go kept l) as (λ o. next_to_go kept l ≡ o → option_map_or (λ (i : Item). i.fid ∷ going_within n size kept (without i.fid l)) o [] ≡ option_map_or (λ (i : Item). i.fid ∷ going_within m size kept (without i.fid l)) o []) [
  | None ↦ λ e. refl
  | Some i ↦ λ e.
      let less = shorter (λ j. not (same_fid j.fid i.fid)) l i (next_there kept l i e) (ap not (same_fid_refl i.fid)) in
      ap (λ g. i.fid ∷ g) (alike n m size kept (without i.fid l) (omega (arith, less, a)) (omega (arith, less, b)))
]) refl)

pub who_next : (size : ℕ) (kept : List Fid) (l : List Item) (i : Item) → nat_le (blocks_of l) size ≡ false → next_to_go kept l ≡ Some i → who_goes size kept l ≡ i.fid ∷ who_goes size kept (without i.fid l)
unfolding who_goes
who_next size kept [] i full next = absurd (none-some i next)
who_next size kept (j ∷ l) i full next =
    let less = shorter (λ k. not (same_fid k.fid i.fid)) (j ∷ l) i (next_there kept (j ∷ l) i next) (ap not (same_fid_refl i.fid)) in
    going_some (length l) size kept (j ∷ l) i full next ∙ ap (λ g. i.fid ∷ g) (alike (length l) (length (without i.fid (j ∷ l))) size kept (without i.fid (j ∷ l)) (omega (arith, less)) (omega arith))

pub who_fits : (size : ℕ) (kept : List Fid) (l : List Item) → nat_le (blocks_of l) size ≡ true → who_goes size kept l ≡ []
unfolding who_goes
who_fits size kept l fits = going_fits (length l) size kept l fits

pub who_none : (size : ℕ) (kept : List Fid) (l : List Item) → next_to_go kept l ≡ None → who_goes size kept l ≡ []
unfolding who_goes
who_none size kept l none = going_none (length l) size kept l none

-- ---- lists

pub left_more : (gone : List Fid) (f : Fid) (items : List Item) → left (gone ++ f ∷ []) items ≡ without f (left gone items)
left_more [] f items = refl
left_more (g ∷ gone) f items = left_more gone f (without g items)

pub listed_more : (gone : List Fid) (f g : Fid) → is_listed (gone ++ f ∷ []) g ≡ (is_listed gone g || same_fid f g)
listed_more [] f g = elim (same_fid f g) as (λ b. (b || false) ≡ b) [ true ↦ refl | false ↦ refl ]
listed_more (h ∷ gone) f g = ap (λ b. same_fid h g || b) (listed_more gone f g) ∙ elim (same_fid h g) as (λ b. (b || (is_listed gone g || same_fid f g)) ≡ ((b || is_listed gone g) || same_fid f g)) [ true ↦ refl | false ↦ refl ]

pub rises_left : (used : Fid → ℕ) (gone : List Fid) (items : List Item) → Rises used items → Rises used (left gone items)
rises_left used [] items rises = rises
rises_left used (f ∷ gone) items rises = rises_left used gone (without f items) (rises_without used used f items (λ j a t. refl) rises)

pub among_at : (used : Fid → ℕ) (items : List Item) (i : Item) → Rises used items → Among i items → item_at items i.fid ≡ Some i
among_at used [] i rises a = absurd a
among_at used (j ∷ items) i rises (inl same) = ap (λ (x : Item). cond (same_fid j.fid x.fid) (Some j) (item_at items x.fid)) (sym same) ∙ ap (λ b. cond b (Some j) (item_at items j.fid)) (same_fid_refl j.fid) ∙ ap Some same
among_at used (j ∷ items) i rises (inr later) =
    let less = rises.0 i later in
    let apart : same_fid j.fid i.fid ≡ false = false_from_ne_true _ (λ t. let same = ap used (same_fid_is j.fid i.fid t) in omega (arith, less, same)) in
    ap (λ b. cond b (Some j) (item_at items i.fid)) apart ∙ among_at used items i rises.1 later

pub none_under : (f : Fid) (l : List Item) → list_any (is_under f) l ≡ false → under_count f l ≡ 0
none_under f [] h = refl
none_under f (i ∷ l) h = (elim (is_under f i) as (λ b. (b || list_any (is_under f) l) ≡ false → length (cond b (i ∷ filter (is_under f) l) (filter (is_under f) l)) ≡ 0) [
  | true ↦ λ k. absurd (both_ways _ k refl)
  | false ↦ λ k. none_under f l k
]) h

pub under_none : (f : Fid) (l : List Item) → under_count f l ≡ 0 → list_any (is_under f) l ≡ false
under_none f [] h = refl
under_none f (i ∷ l) h = (elim (is_under f i) as (λ b. length (cond b (i ∷ filter (is_under f) l) (filter (is_under f) l)) ≡ 0 → (b || list_any (is_under f) l) ≡ false) [
  | true ↦ λ k. absurd (omega (arith, k))
  | false ↦ λ k. under_none f l k
]) h

-- ---- ranks

abbrev pub rank_at : (Fid → Option Standing) → Item → Rank
rank_at places i = rank_of (record { item = i; used = used_at places i.fid })

nat_less : (x y : ℕ) → x < y → nat_cmp x y ≡ Less
nat_less x y h = ap (λ b. cond b Less (cond (x == y) Equal Greater)) (lt-ltb x y h)

nat_same : (x y : ℕ) → x ≡ y → nat_cmp x y ≡ Equal
nat_same x y e = ap (λ b. cond b Less (cond (x == y) Equal Greater)) (le-ltb x y (omega (arith, e))) ∙ ap (λ b. cond b Equal Greater) (eq-eqb x y e)

by_priority_rank : (a b : Rank) → a.priority < b.priority → is_gt (rank_cmp a b) ≡ false
by_priority_rank a b less = ap (λ o. is_gt (ordering_then o (ordering_then (nat_cmp a.used b.used) (fid_cmp b.fid.0 a.fid.0)))) (nat_less a.priority b.priority less)

by_use : (a b : Rank) → a.priority ≡ b.priority → a.used < b.used → is_gt (rank_cmp a b) ≡ false
by_use a b same less =
    ap (λ o. is_gt (ordering_then o (ordering_then (nat_cmp a.used b.used) (fid_cmp b.fid.0 a.fid.0)))) (nat_same a.priority b.priority same)
    ∙ ap (λ o. is_gt (ordering_then o (fid_cmp b.fid.0 a.fid.0))) (nat_less a.used b.used less)

by_fid : (a b : Rank) → a.priority ≡ b.priority → a.used ≡ b.used → fid_cmp b.fid.0 a.fid.0 ≡ Less → is_gt (rank_cmp a b) ≡ false
by_fid a b same used less =
    ap (λ o. is_gt (ordering_then o (ordering_then (nat_cmp a.used b.used) (fid_cmp b.fid.0 a.fid.0)))) (nat_same a.priority b.priority same)
    ∙ ap (λ o. is_gt (ordering_then o (fid_cmp b.fid.0 a.fid.0))) (nat_same a.used b.used used)
    ∙ ap is_gt less

older_used : (used : Fid → ℕ) (l : List Item) (i j : Item) → Rises used l → IsOlder l i j → used i.fid < used j.fid
older_used used l i j rises o = go o.front (subst (Rises used) o.parts rises)
  where
    go : (front : List Item) → Rises used (front ++ i ∷ o.back) → used i.fid < used j.fid
    go [] r = r.0 j o.later
    go (k ∷ front) r = go front r.1

-- an item that goes before another has no greater rank
precedes_rank : (places : Fid → Option Standing) (l : List Item) (i j : Item) → Rises (used_at places) l → Precedes l i j → is_gt (rank_cmp (rank_at places i) (rank_at places j)) ≡ false
precedes_rank places l i j rises (WithoutPriority none some) = by_priority_rank (rank_at places i) (rank_at places j) (omega (arith, none, some))
precedes_rank places l i j rises (LessRecent none other older) =
    let one : (rank_at places i).used ≡ used_at places i.fid = ap (λ b. cond b (used_at places i.fid) 0) (eq-eqb i.priority 0 none) in
    let two : (rank_at places j).used ≡ used_at places j.fid = ap (λ b. cond b (used_at places j.fid) 0) (eq-eqb j.priority 0 other) in
    let less = older_used (used_at places) l i j rises older in
    by_use (rank_at places i) (rank_at places j) (none ∙ sym other) (omega (arith, one, two, less))
precedes_rank places l i j rises (LessPriority some less) = by_priority_rank (rank_at places i) (rank_at places j) less
precedes_rank places l i j rises (GreaterFid some same fid) =
    let one : (rank_at places i).used ≡ 0 = ap (λ b. cond b (used_at places i.fid) 0) (ne_eqb i.priority 0 (λ e. omega (arith, e, some))) in
    let two : (rank_at places j).used ≡ 0 = ap (λ b. cond b (used_at places j.fid) 0) (ne_eqb j.priority 0 (λ e. omega (arith, e, some, same))) in
    by_fid (rank_at places i) (rank_at places j) same (one ∙ sym two) (fids_total.antisymm j.fid i.fid ∙ ap ordering_reverse fid)

and_false : (x : Bool) → (x && false) ≡ false
and_false true = refl
and_false false = refl

frees_parts : (s : Standing) (n : ℕ) (r : Rank) → frees_at (Some s) n r ≡ true → (rank_of s ≡ r) × (s.item.pinned ≡ false) × (n ≡ 0)
frees_parts s n r h =
    let both = and_parts _ _ h in
    let may = and_parts _ _ both.1 in
    (same_rank_is (rank_of s) r both.0, not-true _ may.0, eqb-true n 0 may.1)

frees_none : (places : Fid → Option Standing) → AreKeyed places → (p : Fid) (n : ℕ) (k : Rank) → same_fid p k.fid.0 ≡ false → frees_at (places p) n k ≡ false
frees_none places keyed p n k apart = false_from_ne_true _ (λ t. go (places p) refl t)
  where
    go : (o : Option Standing) → places p ≡ o → frees_at o n k ≡ true → ⊥
    go None e t = cc
    go (Some d) e t =
        let same : p ≡ k.fid.0 = sym (keyed p d e) ∙ ap (λ (x : Rank). x.fid.0) (frees_parts d n k t).0 in
        both_ways _ apart (ap (λ g. same_fid g k.fid.0) same ∙ same_fid_refl k.fid.0)

-- ---- one goes

module _ (places : Fid → Option Standing) (children : Fid → ℕ) (clock total : ℕ) (items : List Item) (q : AreQueued places children clock total items) (pool pool1 : Rank → Bool) (rest : Fid → ℕ) (room : ℕ) (gone kept : List Fid)
    (stand : AreLeaving places pool rest room gone (is_listed kept) items) where
  own_fids : AreKeyed places
  own_fids = keyed places children clock total items q

  rises_now : Rises (used_at places) (left gone items)
  rises_now = rises_left (used_at places) gone items q.rises

  -- the rank of one that may go is still to be looked at
  pool_has : (i : Item) → Among i (left gone items) → may_go kept (left gone items) i ≡ true → pool (rank_at places i) ≡ true
  pool_has i a may = stand.pooled (rank_at places i) (or_parts i.pinned (is_listed kept i.fid) stays_not).1 ∙ and_from _ _ (not_from_false _ (place.0)) place.1
    where
      parts_of : (not (stays kept i) ≡ true) × (not (list_any (is_under i.fid) (left gone items)) ≡ true)
      parts_of = and_parts _ _ may

      stays_not : stays kept i ≡ false
      stays_not = not-true _ parts_of.0

      bare_now : rest i.fid ≡ 0
      bare_now = stand.counted i.fid ∙ none_under i.fid (left gone items) (not-true _ parts_of.1)

      found : cond (is_listed gone i.fid) None (item_at items i.fid) ≡ Some i
      found = sym (item_left gone items i.fid) ∙ among_at (used_at places) (left gone items) i rises_now a

      placed : (o : Option Standing) → places i.fid ≡ o → prelude.option_map (λ (x : Standing). x.item) o ≡ Some i → frees places rest (rank_at places i) ≡ true
      placed None e f = absurd (none-some i f)
      placed (Some d) e f =
          let same : d.item ≡ i = same_Some d.item i f in
          let rank : rank_of d ≡ rank_at places i = (λ k. rank_of (record { item = same k; used = d.used })) ∙ ap (λ n. rank_of (record { item = i; used = n })) (sym (ap (λ o. option_map_or (λ (x : Standing). x.used) o 0) e)) in
          ap (λ o. frees_at o (rest i.fid) (rank_at places i)) e
          ∙ and_from _ _ (ap (λ k. same_rank k (rank_at places i)) rank ∙ same_rank_refl (rank_at places i)) (and_from _ _ (not_from_false _ (ap (λ (x : Item). x.pinned) same ∙ (or_parts i.pinned (is_listed kept i.fid) stays_not).0)) (eq-eqb _ 0 bare_now))

      place : (is_listed gone i.fid ≡ false) × (frees places rest (rank_at places i) ≡ true)
      place = (elim (is_listed gone i.fid) as (λ b. is_listed gone i.fid ≡ b → cond b None (item_at items i.fid) ≡ Some i → (b ≡ false) × (frees places rest (rank_at places i) ≡ true)) [
        | true ↦ λ _ f. absurd (none-some i f)
        | false ↦ λ _ f. (refl, placed (places i.fid) refl (q.placed i.fid ∙ f))
      ]) refl found

  -- where none is still to be looked at, nobody may go
  pub none_next : ((k : Rank) → pool k ≡ false) → next_to_go kept (left gone items) ≡ None
  none_next none = (elim (next_to_go kept (left gone items)) as (λ o. next_to_go kept (left gone items) ≡ o → o ≡ None) [
    | None ↦ λ _. refl
    | Some i ↦ λ e.
        let first = next_first kept (left gone items) i (λ a b x y same. same_Some a b (sym (among_at (used_at places) (left gone items) a rises_now x) ∙ ap (item_at (left gone items)) same ∙ among_at (used_at places) (left gone items) b rises_now y)) e in
        absurd (both_ways _ (none (rank_at places i)) (pool_has i first.there first.free))
  ]) refl

  module _ (r : Rank) (takes : Takes pool pool1 r) (unkept : is_listed kept r.fid.0 ≡ false) where
    popped : (not (is_listed gone r.fid.0) ≡ true) × (frees places rest r ≡ true)
    popped = and_parts _ _ (sym (stand.pooled r unkept) ∙ takes.first.there)

    -- something stands there
    pub is_placed : places r.fid.0 ≡ None → ⊥
    is_placed none = both_ways _ (ap (λ o. frees_at o (rest r.fid.0) r) none) popped.1

    module _ (s : Standing) (at : places r.fid.0 ≡ Some s) where
      own : s.item.fid ≡ r.fid.0
      own = own_fids r.fid.0 s at

      free_parts : (rank_of s ≡ r) × (s.item.pinned ≡ false) × (rest r.fid.0 ≡ 0)
      free_parts = frees_parts s (rest r.fid.0) r (ap (λ o. frees_at o (rest r.fid.0) r) (sym at) ∙ popped.1)

      at_left : item_at (left gone items) s.item.fid ≡ Some s.item
      at_left = ap (item_at (left gone items)) own ∙ item_left gone items r.fid.0 ∙ ap (λ b. cond b None (item_at items r.fid.0)) (not-true _ popped.0) ∙ sym (q.placed r.fid.0) ∙ ap (λ o. prelude.option_map (λ (x : Standing). x.item) o) at

      there : Among s.item (left gone items)
      there = (found_among (left gone items) s.item.fid s.item at_left).0

      may : may_go kept (left gone items) s.item ≡ true
      may = and_from _ _ (not_from_false _ (or_from _ _ free_parts.1 (ap (is_listed kept) own ∙ unkept)))
          (not_from_false _ (under_none s.item.fid (left gone items) (sym (stand.counted s.item.fid) ∙ ap rest own ∙ free_parts.2)))

      rank_own : rank_at places s.item ≡ r
      rank_own = ap (λ n. rank_of (record { item = s.item; used = n })) (ap (λ o. option_map_or (λ (x : Standing). x.used) o 0) (ap places own ∙ at)) ∙ free_parts.0

      -- it is the next to go
      pub is_next : next_to_go kept (left gone items) ≡ Some s.item
      is_next = (elim (next_to_go kept (left gone items)) as (λ o. next_to_go kept (left gone items) ≡ o → o ≡ Some s.item) [
        | None ↦ λ e. absurd (no_first _ e s.item (in_filter (may_go kept (left gone items)) (left gone items) s.item there may))
        | Some i ↦ λ e.
            let first = next_first kept (left gone items) i once e in
            ap Some (pick i first (first.first s.item there may))
      ]) refl
        where
          once : AreOnce (left gone items)
          once a b x y same = same_Some a b (sym (among_at (used_at places) (left gone items) a rises_now x) ∙ ap (item_at (left gone items)) same ∙ among_at (used_at places) (left gone items) b rises_now y)

          pick : (i : Item) → GoesFirst kept (left gone items) i → (s.item ≡ i) ⊎ Precedes (left gone items) i s.item → i ≡ s.item
          pick i first (inl same) = sym same
          pick i first (inr before) =
              let low = subst (λ k. is_gt (rank_cmp (rank_at places i) k) ≡ false) rank_own (precedes_rank places (left gone items) i s.item rises_now before) in
              let high = takes.first.first (rank_at places i) (pool_has i first.there first.free) in
              once i s.item first.there there (ap (λ (k : Rank). k.fid.0) (not_above_both (rank_at places i) r low high ∙ sym rank_own))

      module _ (pool2 : Rank → Bool) (rest' : Fid → ℕ) (room' : ℕ) (counts : (p : Fid) → rest' p ≡ rest p - one_under s.item.parent p) (pools : (k : Rank) → pool2 k ≡ (frees_under places s.item.parent rest' k || pool1 k)) (rooms : room' ≡ room - s.item.blocks) where
        cut : Parts (used_at places) (left gone items) s.item
        cut = parts (used_at places) (left gone items) s.item.fid s.item rises_now at_left

        after : left (gone ++ s.item.fid ∷ []) items ≡ cut.front ++ cut.back
        after = left_more gone s.item.fid items ∙ cut.others

        counted_all : (p : Fid) → rest p ≡ under_count p (cut.front ++ cut.back) + one_under s.item.parent p
        counted_all p = stand.counted p ∙ ap (under_count p) cut.all ∙ count_mid p cut.front s.item cut.back

        counted_now : (p : Fid) → rest' p ≡ under_count p (left (gone ++ s.item.fid ∷ []) items)
        counted_now p =
            let one = counts p in
            let all = counted_all p in
            let now : rest' p ≡ under_count p (cut.front ++ cut.back) = omega (arith, one, all) in
            now ∙ ap (under_count p) (sym after)

        -- nothing is under it
        bare_own : one_under s.item.parent s.item.fid ≡ 0
        bare_own =
            let all = counted_all s.item.fid in
            let none : rest s.item.fid ≡ 0 = ap rest own ∙ free_parts.2 in
            omega (arith, all, none)

        bare_now : (g : Fid) → is_listed (gone ++ s.item.fid ∷ []) g ≡ true → under_count g (left (gone ++ s.item.fid ∷ []) items) ≡ 0
        bare_now g h =
            let all = counted_all g in
            let now = counted_now g in
            let one = counts g in
            let none = none_at (or_cases _ _ (sym (listed_more gone s.item.fid g) ∙ h)) in
            omega (arith, all, now, one, none)
          where
            none_at : (is_listed gone g ≡ true) ⊎ (same_fid s.item.fid g ≡ true) → rest g ≡ 0
            none_at (inl old) = stand.counted g ∙ stand.bare g old
            none_at (inr new) = ap rest (sym (same_fid_is s.item.fid g new) ∙ own) ∙ free_parts.2

        -- whether it stands under the object of a rank
        abbrev under : Rank → Bool
        under k = option_map_or (λ p. same_fid p k.fid.0) s.item.parent false

        no_one : (b : Bool) → cond {A = ℕ} b 1 0 ≡ 0 → b ≡ false
        no_one true e = absurd (omega (arith, e))
        no_one false e = refl

        none_both : (x y : Bool) → x ≡ false → y ≡ false → (x || y) ≡ false
        none_both x y e f = ap (λ b. b || y) e ∙ f

        always : (x y : Bool) → (not (x || true) && y) ≡ false
        always true y = refl
        always false y = refl

        under_apart : (k : Rank) (o : Option Fid) → option_map_or (λ p. same_fid p k.fid.0) o false ≡ false → frees_under places o rest' k ≡ false
        under_apart k None h = refl
        under_apart k (Some p) h = frees_none places own_fids p (rest' p) k h

        under_same : (k : Rank) (o : Option Fid) → option_map_or (λ p. same_fid p k.fid.0) o false ≡ true → frees_under places o rest' k ≡ frees places rest' k
        under_same k None h = absurd (both_ways _ refl h)
        under_same k (Some p) h = ap (λ g. frees_at (places g) (rest' g) k) (same_fid_is p k.fid.0 h)

        -- its own rank is taken out
        own_taken : (k : Rank) → is_listed kept k.fid.0 ≡ false → s.item.fid ≡ k.fid.0 → (not (same_rank r k) && pool k) ≡ false
        own_taken k free same = (elim (pool k) as (λ b. pool k ≡ b → (not (same_rank r k) && b) ≡ false) [
          | true ↦ λ t.
              let frees_k = (and_parts _ _ (sym (stand.pooled k free) ∙ t)).1 in
              let stands : places k.fid.0 ≡ Some s = ap places (sym same ∙ own) ∙ at in
              let rank = (frees_parts s (rest k.fid.0) k (ap (λ o. frees_at o (rest k.fid.0) k) (sym stands) ∙ frees_k)).0 in
              ap (λ b. not b && true) (ap (λ x. same_rank x k) (sym free_parts.0 ∙ rank) ∙ same_rank_refl k)
          | false ↦ λ t. and_false _
        ]) refl

        -- a rank of something under which nothing is left
        others : (k : Rank) → is_listed kept k.fid.0 ≡ false → (frees_under places s.item.parent rest' k || pool k) ≡ (not (is_listed gone k.fid.0 || false) && frees places rest' k)
        others k free = (elim (under k) as (λ b. under k ≡ b → (frees_under places s.item.parent rest' k || pool k) ≡ (not (is_listed gone k.fid.0 || false) && frees places rest' k)) [
          | true ↦ λ t.
              let one : one_under s.item.parent k.fid.0 ≡ 1 = ap (λ b. cond {A = ℕ} b 1 0) t in
              let all = counted_all k.fid.0 in
              let some : rest k.fid.0 ≡ 0 → ⊥ = λ z. omega (arith, one, all, z) in
              let unlisted : is_listed gone k.fid.0 ≡ false = false_from_ne_true _ (λ h. some (stand.counted k.fid.0 ∙ stand.bare k.fid.0 h)) in
              let unpooled : pool k ≡ false = false_from_ne_true _ (λ h. some (rest_none (places k.fid.0) k ((and_parts _ _ (sym (stand.pooled k free) ∙ h)).1))) in
              ap (λ b. frees_under places s.item.parent rest' k || b) unpooled ∙ ap (λ b. b || false) (under_same k s.item.parent t) ∙ plain (frees places rest' k) ∙ ap (λ b. not (b || false) && frees places rest' k) (sym unlisted)
          | false ↦ λ t.
              let one : one_under s.item.parent k.fid.0 ≡ 0 = ap (λ b. cond {A = ℕ} b 1 0) t in
              let same = counts k.fid.0 in
              let still : rest k.fid.0 ≡ rest' k.fid.0 = omega (arith, one, same) in
              ap (λ b. b || pool k) (under_apart k s.item.parent t) ∙ stand.pooled k free ∙ ap (λ n. not (is_listed gone k.fid.0) && frees_at (places k.fid.0) n k) still ∙ ap (λ b. not b && frees places rest' k) (sym (plain (is_listed gone k.fid.0)))
        ]) refl
          where
            plain : (b : Bool) → (b || false) ≡ b
            plain true = refl
            plain false = refl

            rest_none : (o : Option Standing) (k : Rank) → frees_at o (rest k.fid.0) k ≡ true → rest k.fid.0 ≡ 0
            rest_none None k h = absurd (both_ways _ refl h)
            rest_none (Some d) k h = (frees_parts d (rest k.fid.0) k h).2

        pooled_now : (k : Rank) → is_listed kept k.fid.0 ≡ false → pool2 k ≡ (not (is_listed (gone ++ s.item.fid ∷ []) k.fid.0) && frees places rest' k)
        pooled_now k free = pools k ∙ ap (λ b. frees_under places s.item.parent rest' k || b) (takes.rest k) ∙ (elim (same_fid s.item.fid k.fid.0) as (λ b. same_fid s.item.fid k.fid.0 ≡ b → (frees_under places s.item.parent rest' k || (not (same_rank r k) && pool k)) ≡ (not (is_listed gone k.fid.0 || b) && frees places rest' k)) [
          | true ↦ λ t.
              none_both _ _ (under_apart k s.item.parent (no_one (under k) (ap (one_under s.item.parent) (sym (same_fid_is s.item.fid k.fid.0 t)) ∙ bare_own))) (own_taken k free (same_fid_is s.item.fid k.fid.0 t))
              ∙ sym (always (is_listed gone k.fid.0) (frees places rest' k))
          | false ↦ λ t.
              let other : same_rank r k ≡ false = false_from_ne_true _ (λ e. both_ways _ t (ap (λ g. same_fid s.item.fid g) (sym (own ∙ ap (λ (x : Rank). x.fid.0) (same_rank_is r k e))) ∙ same_fid_refl s.item.fid)) in
              ap (λ b. frees_under places s.item.parent rest' k || (not b && pool k)) other ∙ others k free
        ]) refl ∙ ap (λ b. not b && frees places rest' k) (sym (listed_more gone s.item.fid k.fid.0))

        pub gone_on : AreLeaving places pool2 rest' room' (gone ++ s.item.fid ∷ []) (is_listed kept) items
        gone_on = record {
          counted = counted_now;
          pooled = pooled_now;
          blocks =
              let all = stand.blocks ∙ ap blocks_of cut.all ∙ blocks_mid cut.front s.item cut.back in
              let now : room' ≡ blocks_of (cut.front ++ cut.back) = omega (arith, all, rooms) in
              now ∙ ap blocks_of (sym after);
          bare = bare_now;
        }
