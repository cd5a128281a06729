-- A plan leaves a cache in equilibrium.
use Rattle.std.proofs.Common.{◌≡◌, ℕ, zero, suc, ◌<◌, Bool, true, false, cond, not, ◌&&◌, ◌||◌, List, [], ◌∷◌, ◌++◌, length, Some, None, refl, sym, ap, ◌∙◌, subst, inl, inr, arith}
use Rattle.std.specs.Prelude.{nat_le, T}
use Rattle.std.specs.Prelude as prelude
use Rattle.std.specs.Option.{option_map_or}
use Rattle.std.specs.List.{filter, list_any, AllByRecursion}
use Rattle.std.specs.List.Sorted.{IsStrictlySortedBy}
use Rattle.std.specs.Ordering.{is_lt, is_eq, eq_by_cmp}
use Rattle.std.specs.declared.cmp.Ordering.{Ordering}
use Rattle.std.specs.declared.cmp.Ordering.TheVariants.{Less, Equal, Greater}
use Rattle.std.specs.Cmp.{IsTotalOrder}
use Rattle.std.specs.FinMap as map
use Rattle.std.specs.FinMap.{is_sorted}
use Rattle.std.specs.FinMap.Entries.{below_all}
use Rattle.std.proofs.lemmas.Cmp.{tied_itself}
use Rattle.std.proofs.lemmas.Bool.{leb-false, and_parts, both_ways, false_from_ne_true}
use Rattle.coda_fid.specs.declared.fid.Fid.{Fid}
use Rattle.coda_fid.specs.Fid.{same_fid}
use Rattle.coda_fid.proofs.Fids.{same_fid_is, same_fid_refl}
use Rattle.coda_walk.specs.declared.item.Item.{Item}
use Rattle.coda_walk.specs.declared.candidate.Candidate.{Candidate}
use Rattle.coda_walk.specs.declared.candidate.Place.{Place}
use Rattle.coda_walk.specs.Going.{blocks_of, is_listed, next_to_go, going_within, without, who_goes}
use Rattle.coda_walk.specs.Laws.{Among}
use Rattle.coda_walk.specs.Planning.{in_order, marked, is_candidate, candidate_of, candidate_cmp, candidates, blocks_kept, way_up, way_within, parent_at, taken_with, taken_of, takes, pinned_of, at_stake, drops, is_fetched, is_kept, place_of, place_cmp, parents_first, Taken, planned, plan}
use Rattle.coda_walk.specs.Equilibrium.{is_cached_after, AreInOrder, IsInEquilibrium}
use Rattle.coda_walk.proofs.Lists.{in_filter}
use Rattle.coda_walk.proofs.Goes.{next_may}
use Rattle.coda_walk.proofs.Ways.{or_later, listed_both}
use Rattle.coda_walk.proofs.Blocks.{listed_from}
use Rattle.coda_walk.proofs.Orders.{keys_exact, candidates_total, places_total, exact_places}

-- ---- an ordered set as a list

module _ {K : Type 0} (R : K → K → Ordering) where
  is_less : (r : Ordering) → is_lt r ≡ true → r ≡ Less
  is_less Less h = refl
  is_less Equal h = cc
  is_less Greater h = cc

  all_below : {X : Type 0} (k : K) (es : List (K × X)) → below_all R k es ≡ true → AllByRecursion (λ y. R k y ≡ Less) (prelude.map (λ (e : K × X). e.0) es)
  all_below k [] h = tt
  all_below k (e ∷ es) h = let p = and_parts (is_lt (R k e.0)) (below_all R k es) h in (is_less (R k e.0) p.0, all_below k es p.1)

  rises : {X : Type 0} (es : List (K × X)) → is_sorted R es ≡ true → IsStrictlySortedBy R (prelude.map (λ (e : K × X). e.0) es)
  unfolding IsStrictlySortedBy
  rises [] h = tt
  rises (e ∷ es) h = let p = and_parts (below_all R e.0 es) (is_sorted R es) h in (all_below e.0 es p.0, rises es p.1)

  holds : (b : Bool) → T b → b ≡ true
  holds true t = refl
  holds false t = absurd t

  pub keys_rise : (ks : List K) → IsStrictlySortedBy R (in_order R ks)
  keys_rise ks = rises (map.entries (map.from_entries {R = R} (marked ks))) (holds _ (map.entries_sorted (map.from_entries {R = R} (marked ks))))

  any_mapped : {X : Type 0} (f : X → K) (xs : List X) (c : K) → list_any (eq_by_cmp R c) (prelude.map f xs) ≡ list_any (λ x. eq_by_cmp R c (f x)) xs
  any_mapped f [] c = refl
  any_mapped f (x ∷ xs) c = ap (λ b. eq_by_cmp R c (f x) || b) (any_mapped f xs c)

  pub mapped_exact : IsTotalOrder R → {X : Type 0} (f : X → K) (xs : List X) (c : K) → list_any (eq_by_cmp R c) (in_order R (prelude.map f xs)) ≡ list_any (λ x. eq_by_cmp R c (f x)) xs
  mapped_exact o f xs c = keys_exact o (prelude.map f xs) c ∙ any_mapped f xs c

-- an item that passes stands at its place
place_among : (items some : List Item) (i : Item) → Among i some → list_any (λ (j : Item). eq_by_cmp place_cmp (place_of items i) (place_of items j)) some ≡ true
place_among items [] i h = absurd h
place_among items (j ∷ some) i (inl same) =
    ap (λ b. b || list_any (λ (k : Item). eq_by_cmp place_cmp (place_of items i) (place_of items k)) some)
    (ap (λ (k : Item). eq_by_cmp place_cmp (place_of items i) (place_of items k)) same ∙ tie)
  where
    tie : eq_by_cmp place_cmp (place_of items i) (place_of items i) ≡ true
    tie = ap is_eq (tied_itself places_total (place_of items i))
place_among items (j ∷ some) i (inr later) = or_later (eq_by_cmp place_cmp (place_of items i) (place_of items j)) _ (place_among items some i later)

place_listed : (ks : List Place) (q : Place) → list_any (eq_by_cmp place_cmp q) ks ≡ true → is_listed (prelude.map (λ (p : Place). p.fid) ks) q.fid ≡ true
place_listed [] q h = cc
place_listed (k ∷ ks) q h = (elim (eq_by_cmp place_cmp q k) as (λ b. eq_by_cmp place_cmp q k ≡ b → (b || list_any (eq_by_cmp place_cmp q) ks) ≡ true → (same_fid k.fid q.fid || is_listed (prelude.map (λ (p : Place). p.fid) ks) q.fid) ≡ true) [
  | true ↦ λ t _. ap (λ b. b || is_listed (prelude.map (λ (p : Place). p.fid) ks) q.fid) (ap (λ (p : Place). same_fid k.fid p.fid) (exact_places q k (is_equal (place_cmp q k) t)) ∙ same_fid_refl k.fid)
  | false ↦ λ t l. or_later (same_fid k.fid q.fid) _ (place_listed ks q l)
]) refl h
  where
    is_equal : (r : Ordering) → is_eq r ≡ true → r ≡ Equal
    is_equal Less e = cc
    is_equal Equal e = refl
    is_equal Greater e = cc

-- who passes is among those that are listed with parents first
first_listed : (items some : List Item) (i : Item) → Among i some → is_listed (parents_first items some) i.fid ≡ true
first_listed items some i h = place_listed _ (place_of items i) (mapped_exact place_cmp places_total (place_of items) some (place_of items i) ∙ place_among items some i h)

-- ---- who is kept doesn't go

never_goes : (steps size : ℕ) (kept : List Fid) (items : List Item) (f : Fid) → is_listed kept f ≡ true → is_listed (going_within steps size kept items) f ≡ false
never_goes zero size kept items f h = refl
never_goes (suc steps) size kept items f h =
    elim (nat_le (blocks_of items) size) as (λ b. is_listed (cond b [] (option_map_or (λ (i : Item). i.fid ∷ going_within steps size kept (without i.fid items)) (next_to_go kept items) [])) f ≡ false) [
      | true ↦ refl
      | false ↦ (elim (next_to_go kept items) as (λ o. next_to_go kept items ≡ o → is_listed (option_map_or (λ (i : Item). i.fid ∷ going_within steps size kept (without i.fid items)) o []) f ≡ false) [
        | None ↦ λ e. refl
        | Some i ↦ λ e.
            let rest = never_goes steps size kept (without i.fid items) f h in
            let free = (next_may kept items i e).free in
            ap (λ b. b || is_listed (going_within steps size kept (without i.fid items)) f)
            (false_from_ne_true (same_fid i.fid f) (λ t. both_ways _ free (or_later i.pinned _ (ap (is_listed kept) (same_fid_is i.fid f t) ∙ h))))
            ∙ rest
      ]) refl
    ]

-- ---- who is taken

module _ (size : ℕ) (items : List Item) where
  -- who is taken stays taken
  with_taken : (t : Taken) (g f : Fid) → is_listed t.taken f ≡ true → is_listed (taken_with size items t g).taken f ≡ true
  with_taken t g f h =
      elim (nat_le (blocks_kept items (t.kept ++ way_up items g)) size) as (λ b. is_listed (cond b (record { kept = t.kept ++ way_up items g; taken = t.taken ++ g ∷ [] }) t).taken f ≡ true) [
        | true ↦ listed_both t.taken (g ∷ []) f ∙ ap (λ b. b || is_listed (g ∷ []) f) h
        | false ↦ h
      ]

  of_taken : (cs : List Candidate) (t : Taken) (f : Fid) → is_listed t.taken f ≡ true → is_listed (taken_of size items t cs).taken f ≡ true
  of_taken [] t f h = h
  of_taken (c ∷ cs) t f h = of_taken cs (taken_with size items t c.fid) f (with_taken t c.fid f h)

  -- who is taken is kept
  AreKept : Taken → Type 0
  AreKept t = (f : Fid) → is_listed t.taken f ≡ true → is_listed t.kept f ≡ true

  with_kept : 0 < length items → (t : Taken) (g : Fid) → AreKept t → AreKept (taken_with size items t g)
  unfolding AreKept
  with_kept some t g kept =
      elim (nat_le (blocks_kept items (t.kept ++ way_up items g)) size) as (λ b. (f : Fid) → is_listed (cond b (record { kept = t.kept ++ way_up items g; taken = t.taken ++ g ∷ [] }) t).taken f ≡ true → is_listed (cond b (record { kept = t.kept ++ way_up items g; taken = t.taken ++ g ∷ [] }) t).kept f ≡ true) [
        | true ↦ λ f h. listed_both t.kept (way_up items g) f ∙ either f (is_listed t.taken f) refl (sym (listed_both t.taken (g ∷ []) f) ∙ h)
        | false ↦ kept
      ]
    where
      begins : (n : ℕ) → 0 < n → is_listed (way_within items n g) g ≡ true
      begins zero l = absurd (omega (arith, l))
      begins (suc n) l = ap (λ b. b || is_listed (option_map_or (λ r. way_within items n r) (parent_at items g) []) g) (same_fid_refl g)

      same_one : (f : Fid) (b : Bool) → same_fid g f ≡ b → (b || false) ≡ true → g ≡ f
      same_one f true e h = same_fid_is g f e
      same_one f false e h = cc

      either : (f : Fid) (b : Bool) → is_listed t.taken f ≡ b → (b || is_listed (g ∷ []) f) ≡ true → (is_listed t.kept f || is_listed (way_up items g) f) ≡ true
      either f true e h = ap (λ b. b || is_listed (way_up items g) f) (kept f e)
      either f false e h = or_later (is_listed t.kept f) _ (subst (λ x. is_listed (way_up items g) x ≡ true) (same_one f (same_fid g f) refl h) (begins (length items) some))

  of_kept : 0 < length items → (cs : List Candidate) (t : Taken) → AreKept t → AreKept (taken_of size items t cs)
  of_kept some [] t kept = kept
  of_kept some (c ∷ cs) t kept = of_kept some cs (taken_with size items t c.fid) (with_kept some t c.fid kept)

  of_both : (front back : List Candidate) (t : Taken) → taken_of size items t (front ++ back) ≡ taken_of size items (taken_of size items t front) back
  of_both [] back t = refl
  of_both (c ∷ front) back t = of_both front back (taken_with size items t c.fid)

  -- who isn't taken didn't fit at its turn
  turn : (t : Taken) (c : Candidate) (after : List Candidate) → is_listed (taken_of size items t (c ∷ after)).taken c.fid ≡ false → size < blocks_kept items (t.kept ++ way_up items c.fid)
  turn t c after out = (elim (nat_le (blocks_kept items (t.kept ++ way_up items c.fid)) size) as (λ b. nat_le (blocks_kept items (t.kept ++ way_up items c.fid)) size ≡ b → size < blocks_kept items (t.kept ++ way_up items c.fid)) [
    | true ↦ λ e. absurd (both_ways _ out (of_taken after (taken_with size items t c.fid) c.fid (fits e)))
    | false ↦ λ e. leb-false _ _ e
  ]) refl
    where
      fits : nat_le (blocks_kept items (t.kept ++ way_up items c.fid)) size ≡ true → is_listed (taken_with size items t c.fid).taken c.fid ≡ true
      fits e =
          ap (λ b. is_listed (cond b (record { kept = t.kept ++ way_up items c.fid; taken = t.taken ++ c.fid ∷ [] }) t).taken c.fid) e
          ∙ listed_both t.taken (c.fid ∷ []) c.fid ∙ or_later (is_listed t.taken c.fid) _ (ap (λ b. b || false) (same_fid_refl c.fid))

  -- who is taken is cached then
  taken_cached : (recency : List Fid) (t : Taken) → AreKept t → (i : Item) → Among i items → is_listed t.taken i.fid ≡ true → is_cached_after (planned size items recency t) i.fid ≡ true
  unfolding AreKept who_goes
  taken_cached recency t kept i h taken =
      (elim (is_fetched t i) as (λ b. is_fetched t i ≡ b → is_cached_after (planned size items recency t) i.fid ≡ true) [
        | true ↦ λ e. or_later (is_listed (planned size items recency t).keep i.fid) _ (first_listed items _ i (in_filter (is_fetched t) items i h e))
        | false ↦ λ e. ap (λ b. b || is_listed (planned size items recency t).fetch i.fid)
            (listed_from (is_kept t (drops size items recency t.kept)) items i h
            (stays i.cached (is_listed t.taken i.fid && not (i.served || i.pinned)) (is_listed t.kept i.fid) (is_listed (drops size items recency t.kept) i.fid) e (kept i.fid taken)
            (never_goes (length (at_stake items recency t.kept)) size t.kept (at_stake items recency t.kept) i.fid (kept i.fid taken))))
      ]) refl
    where
      stays : (cached a k g : Bool) → (a || (k && not cached)) ≡ false → k ≡ true → g ≡ false → (cached && (not (a || (k && not cached)) && not g)) ≡ true
      stays true true k g e l d = cc
      stays true false true g e l d = ap not d
      stays true false false g e l d = cc
      stays false true k g e l d = cc
      stays false false true g e l d = cc
      stays false false false g e l d = cc

some_items : (items : List Item) (i : Item) → Among i items → 0 < length items
some_items [] i h = absurd h
some_items (j ∷ items) i h = omega arith

pub candidates_in_order : (items : List Item) → AreInOrder items (candidates items)
candidates_in_order items = record {
  rising = keys_rise candidate_cmp (prelude.map candidate_of (filter is_candidate items));
  exact = λ c. mapped_exact candidate_cmp candidates_total candidate_of (filter is_candidate items) c;
}

pub in_equilibrium : (size : ℕ) (items : List Item) (recency : List Fid) → IsInEquilibrium size items (plan size items recency)
unfolding plan takes AreKept
in_equilibrium size items recency = record {
  order = candidates_in_order items;
  balance = λ i h c out before after split.
      let none : AreKept size items (pinned_of items) = λ f l. cc in
      let all = taken_of size items (pinned_of items) (candidates items) in
      let free : is_listed all.taken i.fid ≡ false = false_from_ne_true _ (λ l. both_ways _ out (taken_cached size items recency all (of_kept size items (some_items items i h) (candidates items) (pinned_of items) none) i h l)) in
      turn size items (taken_of size items (pinned_of items) before) (candidate_of i) after
      (sym (ap (λ (x : Taken). is_listed x.taken i.fid) (ap (taken_of size items (pinned_of items)) split ∙ of_both size items before (candidate_of i ∷ after) (pinned_of items))) ∙ free);
}
