-- Who goes for a node that is put goes rightly.
use Rattle.std.specs.Prelude.{◌⊎◌}
use Rattle.std.proofs.Common.{◌≡◌, ◌≢◌, ℕ, zero, suc, ◌+◌, ◌-◌, ◌<◌, ◌≤◌, Bool, true, false, cond, not, ◌||◌, ◌&&◌, List, [], ◌∷◌, ◌++◌, Option, Some, None, is_some, refl, sym, ap, ◌∙◌, subst, inl, inr, arith}
use Rattle.std.specs.Prelude as prelude
use Rattle.std.specs.Prelude.{if◌then◌else◌, nat_lt, Ok, Err, Result, OnOk}
use Rattle.std.specs.List.{filter, list_any, AllByRecursion, IsDistinct}
use Rattle.std.specs.Option.{option_map_or}
use Rattle.std.specs.FinMap as map
use Rattle.std.proofs.lemmas.Bool.{both_ways, ltb-false}
use Rattle.std.proofs.lemmas.List.Folds.{list_any-append}
use Rattle.std.proofs.lemmas.Option.{none-some, same_Some}
use Rattle.coda_fid.specs.declared.fid.Fid.{Fid}
use Rattle.coda_fid.specs.Fid.{same_fid}
use Rattle.coda_fid.proofs.Fids.{fids_total, exact_fids, same_fid_is, same_fid_refl}
use Rattle.coda_tree.specs.declared.node.Node.{Node}
use Rattle.coda_tree.specs.declared.node.NodeKind.TheVariants.{Link}
use Rattle.coda_tree.proofs.Order.{fid_cases, get_here, get_else}
use Rattle.coda_tree.proofs.Keyed.{not_same}
use Rattle.coda_walk.specs.declared.item.Item.{Item}
use Rattle.coda_walk.specs.Going.{blocks_of, is_listed, stays, who_goes}
use Rattle.coda_walk.specs.Laws.{Among, MakesRoom, GoRightly}
use Rattle.coda_walk.proofs.Goes.{who_goes_rightly}
use Rattle.coda_cache.specs.declared.hold.Hold.{Hold}
use Rattle.coda_cache.specs.declared.fault.CacheFault.{CacheFault}
use Rattle.coda_cache.specs.declared.fault.CacheFault.TheVariants.{CacheFull}
use Rattle.coda_cache.specs.State.{CacheState, is_cached, is_dirty, parent_of, parent_held, blocks_at}
use Rattle.coda_cache.specs.Ways.{way_up, is_below, is_pinned}
use Rattle.coda_cache.specs.Steps.{put_in, kept_parent}
use Rattle.coda_cache.specs.Room.{item_of, items_of, pinned_blocks, way_of, with_ancestors, item_put, new_item, item_after, items_with, way_from, parent_then, kept_for, more_blocks, is_needed, needed_for, blocks_where, evicted_for}
use Rattle.coda_cache.specs.Laws.{IsCache, MayHold}
use Rattle.coda_cache.proofs.Climbs.{below_by, way_top, way_cached}
use Rattle.coda_cache.proofs.Kept.{both_true}
use Rattle.coda_cache.proofs.KeptMore.{put_kept}
use Rattle.coda_cache.proofs.Operated.{self_on_way}

-- ---- items that a function of fids gives

pub among_map : (item : Fid → Item) (fids : List Fid) (i : Item) → Among i (prelude.map item fids) → (g : Fid) × (is_listed fids g ≡ true) × (item g ≡ i)
among_map item [] i h = absurd h
among_map item (g ∷ fids) i (inl same) = (g, ap (λ b. b || is_listed fids g) (same_fid_refl g), same)
among_map item (g ∷ fids) i (inr later) = let rest = among_map item fids i later in (rest.0, or_later (same_fid g rest.0) (is_listed fids rest.0) rest.1, rest.2)
  where
    or_later : (a b : Bool) → b ≡ true → (a || b) ≡ true
    or_later true b h = refl
    or_later false b h = h

abbrev total : (Fid → ℕ) → List Fid → ℕ
total depth [] = 0
total depth (g ∷ fids) = suc (depth g + total depth fids)

below_total : (depth : Fid → ℕ) (fids : List Fid) (g : Fid) → is_listed fids g ≡ true → depth g < total depth fids
below_total depth [] g h = absurd (both_ways _ refl h)
below_total depth (f ∷ fids) g h = (elim (same_fid f g) as (λ b. same_fid f g ≡ b → (b || is_listed fids g) ≡ true → depth g < suc (depth f + total depth fids)) [
  | true ↦ λ e _. let same = ap depth (same_fid_is f g e) in omega (arith, same)
  | false ↦ λ e later. let rest = below_total depth fids g later in omega (arith, rest)
]) refl h

module _ (fids : List Fid) (item : Fid → Item) (kept : List Fid) (size : ℕ) (depth : Fid → ℕ) (fid_is : (g : Fid) → (item g).fid ≡ g) (deeper : (g p : Fid) → (item g).parent ≡ Some p → depth p < depth g)
    (held : (g p : Fid) → (item g).parent ≡ Some p → stays kept (item g) ≡ true → stays kept (item p) ≡ true) (fit : blocks_of (filter (stays kept) (prelude.map item fids)) ≤ size) where
  at_its_fid : (i : Item) → Among i (prelude.map item fids) → item i.fid ≡ i
  at_its_fid i h = let at = among_map item fids i h in ap item (ap (λ (j : Item). j.fid) (sym at.2) ∙ fid_is at.0) ∙ at.2

  pub makes_room : MakesRoom size kept (prelude.map item fids)
  makes_room = record {
    once = λ i j h l same. sym (at_its_fid i h) ∙ ap item same ∙ at_its_fid j l;
    depth = depth;
    deepest = total depth fids;
    bounded = λ i h. let at = among_map item fids i h in below_total depth fids i.fid (ap (is_listed fids) (ap (λ (j : Item). j.fid) (sym at.2) ∙ fid_is at.0) ∙ at.1);
    deeper = λ i p h is. deeper i.fid p (ap (λ (j : Item). j.parent) (at_its_fid i h) ∙ is);
    held = λ i j h l is s. subst (λ x. stays kept x ≡ true) (at_its_fid i h) (held j.fid i.fid (ap (λ (x : Item). x.parent) (at_its_fid j l) ∙ is) (subst (λ x. stays kept x ≡ true) (sym (at_its_fid j l)) s));
    fit = fit;
  }

-- ---- what is above what is on a way is on it

pub or_true : (a b : Bool) → (a || b) ≡ true → (a ≡ true) ⊎ (b ≡ true)
or_true true b h = inl refl
or_true false b h = inr h

pub or_second : (a b : Bool) → b ≡ true → (a || b) ≡ true
or_second true b h = refl
or_second false b h = h

pub or_first : (a b : Bool) → a ≡ true → (a || b) ≡ true
or_first true b h = refl
or_first false b h = absurd (both_ways _ refl h)

module _ (c : CacheState) (k : IsCache c) where
  closed_within : (n : ℕ) (d g i : Fid) → k.depth d < n → is_cached c d ≡ true → is_below c d g ≡ true → parent_of c g ≡ Some i → is_below c d i ≡ true
  closed_within zero d g i low there below is = absurd (omega (arith, low))
  closed_within (suc n) d g i low there below is = (elim (parent_of c d) as (λ o. parent_of c d ≡ o → is_below c d i ≡ true) [
    | None ↦ λ none.
        let only : same_fid d g ≡ true = at_top (same_fid d g) (ap (λ l. is_listed l g) (sym (way_top c k d there none)) ∙ below) in
        absurd (none-some i (sym none ∙ ap (parent_of c) (same_fid_is d g only) ∙ is))
    | Some p ↦ λ up.
        let less = k.deeper d p up in
        let parent_there = k.parents d p up in
        below_by c k d p i there up ∙ or_second (same_fid d i) (is_below c p i) (elim (or_true _ _ (sym (below_by c k d p g there up) ∙ below)) [
          | inl here ↦ ap (is_below c p) (same_Some i p (sym is ∙ ap (parent_of c) (sym (same_fid_is d g here)) ∙ up)) ∙ self_on_way c p (k.held p ∙ parent_there)
          | inr later ↦ closed_within n p g i (omega (arith, low, less)) parent_there later is
        ])
  ]) refl
    where
      at_top : (b : Bool) → (b || false) ≡ true → b ≡ true
      at_top true h = refl
      at_top false h = absurd (both_ways _ refl h)

  pub closed : (d g i : Fid) → is_cached c d ≡ true → is_below c d g ≡ true → parent_of c g ≡ Some i → is_below c d i ≡ true
  closed d g i there below is = closed_within (suc (k.depth d)) d g i (omega arith) there below is

  dirty_cached : (d : Fid) → is_dirty c d ≡ true → is_cached c d ≡ true
  dirty_cached d is = sym (k.held d) ∙ go (map.get c.holds d) is
    where
      go : (o : Option Hold) → option_map_or (λ (hold : Hold). hold.dirty) o false ≡ true → is_some o ≡ true
      go None h = absurd (both_ways _ refl h)
      go (Some hold) h = refl

  -- what is above a pinned node is pinned
  pub pinned_above : (g i : Fid) → is_pinned c g ≡ true → parent_of c g ≡ Some i → is_pinned c i ≡ true
  pinned_above g i pinned is = go c.recency pinned
    where
      go : (fids : List Fid) → list_any (λ d. is_dirty c d && is_below c d g) fids ≡ true → list_any (λ d. is_dirty c d && is_below c d i) fids ≡ true
      go [] h = h
      go (d ∷ fids) h = elim (or_true _ _ h) [
        | inl here ↦
            let both = both_true _ _ here in
            or_first _ _ (λ j. both.0 j && closed d g i (dirty_cached d both.0) both.1 is j)
        | inr later ↦ or_second _ _ (go fids later)
      ]

  -- a pinned node is cached
  pinned_cached : (g : Fid) → is_pinned c g ≡ true → is_cached c g ≡ true
  pinned_cached g pinned = go c.recency pinned
    where
      go : (fids : List Fid) → list_any (λ d. is_dirty c d && is_below c d g) fids ≡ true → is_cached c g ≡ true
      go [] h = absurd (both_ways _ refl h)
      go (d ∷ fids) h = elim (or_true _ _ h) [
        | inl here ↦ let both = both_true _ _ here in way_cached c k d g (dirty_cached d both.0) both.1
        | inr later ↦ go fids later
      ]

  way_of_closed : (h g i : Fid) → is_listed (way_of c h) g ≡ true → parent_of c g ≡ Some i → is_listed (way_of c h) i ≡ true
  way_of_closed h g i on is = (elim (is_cached c h) as (λ b. is_cached c h ≡ b → is_listed (if b then way_up c h else []) g ≡ true → is_listed (if b then way_up c h else []) i ≡ true) [
    | true ↦ λ there on. closed h g i there on is
    | false ↦ λ _ on. on
  ]) refl on

  pub ancestors_closed : (keep : List Fid) (g i : Fid) → is_listed (with_ancestors c keep) g ≡ true → parent_of c g ≡ Some i → is_listed (with_ancestors c keep) i ≡ true
  ancestors_closed [] g i on is = on
  ancestors_closed (h ∷ keep) g i on is =
      list_any-append (λ x. same_fid x i) (way_of c h) (with_ancestors c keep)
      ∙ (elim (or_true _ _ (sym (list_any-append (λ x. same_fid x g) (way_of c h) (with_ancestors c keep)) ∙ on)) [
        | inl here ↦ or_first _ _ (way_of_closed h g i here is)
        | inr later ↦ or_second _ _ (ancestors_closed keep g i later is)
      ])

  -- ---- for a node that is put

  module _ (f : Fid) (parent : Option Fid) (blocks : ℕ) (keep : List Fid) (may : MayHold c f parent) where
    abbrev kept : List Fid
    kept = kept_for c f parent keep

    -- the directory under which a node is then
    abbrev then_parent : Fid → Option Fid
    then_parent g = cond (same_fid g f) (parent_then c f parent) (parent_of c g)

    then_here : then_parent f ≡ parent_then c f parent
    then_here = ap (λ b. cond b (parent_then c f parent) (parent_of c f)) (same_fid_refl f)

    then_else : (g : Fid) → g ≢ f → then_parent g ≡ parent_of c g
    then_else g apart = ap (λ b. cond b (parent_then c f parent) (parent_of c g)) (not_same g f apart)

    parent_is_cached : (p : Fid) → parent_then c f parent ≡ Some p → is_cached c p ≡ true
    parent_is_cached p is = (elim (is_cached c f) as (λ b. is_cached c f ≡ b → (if b then parent_of c f else parent) ≡ Some p → is_cached c p ≡ true) [
      | true ↦ λ _ is. k.parents f p is
      | false ↦ λ free is. may p free is
    ]) refl is

    from_closed : (o : Option Fid) → ((p : Fid) → o ≡ Some p → is_cached c p ≡ true) → (g i : Fid) → is_listed (way_from c o) g ≡ true → parent_of c g ≡ Some i → is_listed (way_from c o) i ≡ true
    from_closed None there g i on is = on
    from_closed (Some p) there g i on is = closed p g i (there p refl) on is

    from_first : (o : Option Fid) → ((p : Fid) → o ≡ Some p → is_cached c p ≡ true) → (i : Fid) → o ≡ Some i → is_listed (way_from c o) i ≡ true
    from_first None there i is = absurd (none-some i is)
    from_first (Some p) there i is = ap (is_listed (way_up c p)) (sym (same_Some p i is)) ∙ self_on_way c p (k.held p ∙ there p refl)

    -- what is above what is kept is kept
    kept_above : (g i : Fid) → then_parent g ≡ Some i → is_listed kept g ≡ true → is_listed kept i ≡ true
    kept_above g i is on = elim (fid_cases g f) [
      | inl at ↦ or_second (same_fid f i) _ (both i ∙ or_first _ _ (from_first (parent_then c f parent) parent_is_cached i (sym then_here ∙ ap then_parent (sym at) ∙ is)))
      | inr apart ↦
          let was = sym (then_else g apart) ∙ is in
          or_second (same_fid f i) _ (both i ∙ (elim (or_true _ _ (sym (both g) ∙ (ap (λ b. b || is_listed (way_from c (parent_then c f parent) ++ with_ancestors c keep) g) (sym (not_same f g (λ same. apart (sym same)))) ∙ on))) [
            | inl here ↦ or_first _ _ (from_closed (parent_then c f parent) parent_is_cached g i here was)
            | inr later ↦ or_second _ _ (ancestors_closed keep g i later was)
          ]))
    ]
      where
        both : (x : Fid) → is_listed (way_from c (parent_then c f parent) ++ with_ancestors c keep) x ≡ (is_listed (way_from c (parent_then c f parent)) x || is_listed (with_ancestors c keep) x)
        both x = list_any-append (λ y. same_fid y x) (way_from c (parent_then c f parent)) (with_ancestors c keep)

    -- a pinned node that is put is cached, so what is above it then is what was
    then_pinned_above : (g i : Fid) → then_parent g ≡ Some i → is_pinned c g ≡ true → is_pinned c i ≡ true
    then_pinned_above g i is pinned = elim (fid_cases g f) [
      | inl at ↦ pinned_above g i pinned (cached_parent (pinned_cached g pinned) at)
      | inr apart ↦ pinned_above g i pinned (sym (then_else g apart) ∙ is)
    ]
      where
        cached_parent : is_cached c g ≡ true → g ≡ f → parent_of c g ≡ Some i
        cached_parent there at =
            ap (parent_of c) at ∙ sym (ap (λ b. if b then parent_of c f else parent) (ap (is_cached c) (sym at) ∙ there)) ∙ sym then_here ∙ ap then_parent (sym at) ∙ is

    -- the depth of a cache into which the node is put
    abbrev blank : Node
    blank = record { kind = Link []; mode = 0; owner = 0; mtime = 0; sid = record { client = 0; number = 0 }; marked = false }

    then_deeper : (put : IsCache (put_in c f parent blank None)) (g p : Fid) → then_parent g ≡ Some p → put.depth p < put.depth g
    then_deeper put g p is = put.deeper g p (as_put ∙ is)
      where
        kept_is : (o : Option Hold) → is_some o ≡ is_cached c f → parent_held o ≡ parent_of c f → kept_parent o parent ≡ parent_then c f parent
        kept_is None h e = ap (λ b. if b then parent_of c f else parent) h
        kept_is (Some hold) h e = e ∙ ap (λ b. if b then parent_of c f else parent) h

        as_put : parent_of (put_in c f parent blank None) g ≡ then_parent g
        as_put = elim (fid_cases g f) [
          | inl at ↦ ap (parent_of (put_in c f parent blank None)) at ∙ ap parent_held (get_here fids_total c.holds f _) ∙ kept_is (map.get c.holds f) (k.held f) refl ∙ sym then_here ∙ ap then_parent (sym at)
          | inr apart ↦ ap parent_held (get_else fids_total exact_fids c.holds f _ g apart) ∙ sym (then_else g apart)
        ]

    -- ---- the blocks of those that stay

    module _ (item : Fid → Item) (fid_is : (g : Fid) → (item g).fid ≡ g) (parent_is : (g : Fid) → (item g).parent ≡ then_parent g) (pinned_is : (g : Fid) → (item g).pinned ≡ is_pinned c g)
        (blocks_here : (item f).blocks ≡ blocks) (blocks_else : (g : Fid) → g ≢ f → (item g).blocks ≡ blocks_at c g) where
      stays_is : (g : Fid) → stays kept (item g) ≡ (is_pinned c g || is_listed kept g)
      stays_is g i = pinned_is g i || is_listed kept (fid_is g i)

      abbrev stay_sum : List Fid → ℕ
      stay_sum fids = blocks_of (filter (stays kept) (prelude.map item fids))

      abbrev pinned_sum : List Fid → ℕ
      pinned_sum fids = pinned_blocks (prelude.map (item_of c) fids)

      abbrev needed_sum : List Fid → ℕ
      needed_sum fids = blocks_where (is_needed f kept) (prelude.map (item_of c) fids)

      one_more : (test : Item → Bool) (i : Item) (items : List Item) → blocks_of (filter test (i ∷ items)) ≡ cond (test i) i.blocks 0 + blocks_of (filter test items)
      one_more test i items = elim (test i) as (λ b. blocks_of (cond b (i ∷ filter test items) (filter test items)) ≡ cond b i.blocks 0 + blocks_of (filter test items)) [ true ↦ refl | false ↦ omega arith ]

      share : (p l : Bool) (n : ℕ) → cond (p || l) n 0 ≤ cond p n 0 + cond (true && (not p && l)) n 0
      share true l n = omega arith
      share false true n = omega arith
      share false false n = omega arith

      one_else : (g : Fid) → g ≢ f → cond (stays kept (item g)) (item g).blocks 0 ≤ cond (is_pinned c g) (blocks_at c g) 0 + cond (is_needed f kept (item_of c g)) (blocks_at c g) 0
      one_else g apart =
          subst (λ n. cond (stays kept (item g)) n 0 ≤ cond (is_pinned c g) (blocks_at c g) 0 + cond (is_needed f kept (item_of c g)) (blocks_at c g) 0) (sym (blocks_else g apart))
          (subst (λ b. cond b (blocks_at c g) 0 ≤ cond (is_pinned c g) (blocks_at c g) 0 + cond (is_needed f kept (item_of c g)) (blocks_at c g) 0) (sym (stays_is g))
          (subst (λ b. cond (is_pinned c g || is_listed kept g) (blocks_at c g) 0 ≤ cond (is_pinned c g) (blocks_at c g) 0 + cond (not b && (not (is_pinned c g) && is_listed kept g)) (blocks_at c g) 0) (sym (not_same g f apart))
          (share (is_pinned c g) (is_listed kept g) (blocks_at c g))))

      sum_else : (fids : List Fid) → AllByRecursion (λ y. same_fid f y ≡ false) fids → stay_sum fids ≤ pinned_sum fids + needed_sum fids
      sum_else [] h = omega arith
      sum_else (g ∷ fids) h =
          let apart : g ≢ f = λ same. both_ways _ h.0 (ap (same_fid f) same ∙ same_fid_refl f) in
          let here = one_else g apart in
          let rest = sum_else fids h.1 in
          let s = one_more (stays kept) (item g) (prelude.map item fids) in
          let p = one_more (λ (i : Item). i.pinned) (item_of c g) (prelude.map (item_of c) fids) in
          let n = one_more (is_needed f kept) (item_of c g) (prelude.map (item_of c) fids) in
          omega (arith, here, rest, s, p, n)

      at_most : (b : Bool) (n : ℕ) → cond b n 0 ≤ n
      at_most true n = omega arith
      at_most false n = omega arith

      grown : blocks ≤ cond (is_pinned c f) (blocks_at c f) 0 + more_blocks c f blocks
      grown = elim (is_pinned c f) as (λ b. blocks ≤ cond b (blocks_at c f) 0 + (if b then blocks - blocks_at c f else blocks)) [ true ↦ omega arith | false ↦ omega arith ]

      sum_with : (fids : List Fid) → IsDistinct same_fid fids → stay_sum fids ≤ pinned_sum fids + needed_sum fids + more_blocks c f blocks
      unfolding IsDistinct
      sum_with [] d = omega arith
      sum_with (g ∷ fids) d =
          let s = one_more (stays kept) (item g) (prelude.map item fids) in
          let p = one_more (λ (i : Item). i.pinned) (item_of c g) (prelude.map (item_of c) fids) in
          let n = one_more (is_needed f kept) (item_of c g) (prelude.map (item_of c) fids) in
          elim (fid_cases g f) [
            | inl at ↦
                let rest = sum_else fids (subst (λ x. AllByRecursion (λ y. same_fid x y ≡ false) fids) at d.0) in
                let own : cond (stays kept (item g)) (item g).blocks 0 ≤ blocks = subst (λ m. cond (stays kept (item g)) (item g).blocks 0 ≤ m) (ap (λ x. (item x).blocks) at ∙ blocks_here) (at_most (stays kept (item g)) (item g).blocks) in
                let more : blocks ≤ cond (is_pinned c g) (blocks_at c g) 0 + more_blocks c f blocks = subst (λ x. blocks ≤ cond (is_pinned c x) (blocks_at c x) 0 + more_blocks c f blocks) (sym at) grown in
                omega (arith, rest, own, more, s, p, n)
            | inr apart ↦
                let here = one_else g apart in
                let rest = sum_with fids d.1 in
                omega (arith, here, rest, s, p, n)
          ]

      then_held : (g i : Fid) → (item g).parent ≡ Some i → stays kept (item g) ≡ true → stays kept (item i) ≡ true
      then_held g i is s =
          let up = sym (parent_is g) ∙ is in
          stays_is i ∙ (elim (or_true _ _ (sym (stays_is g) ∙ s)) [
            | inl pinned ↦ or_first _ _ (then_pinned_above g i up pinned)
            | inr listed ↦ or_second _ _ (kept_above g i up listed)
          ])

      pub room : (fids : List Fid) → stay_sum fids ≤ c.size → MakesRoom c.size kept (prelude.map item fids)
      room fids fit =
          let put = put_kept c f parent blank None k may in
          makes_room fids item kept c.size put.depth fid_is (λ g p is. then_deeper put g p (sym (parent_is g) ∙ is)) then_held fit

-- ---- the items of a cache into which a node is put

pub map_twice : {A B C : Type 0} (g : B → C) (h : A → B) (xs : List A) → prelude.map g (prelude.map h xs) ≡ prelude.map (λ x. g (h x)) xs
map_twice g h [] = refl
map_twice g h (x ∷ xs) = ap (λ l. g (h x) ∷ l) (map_twice g h xs)

pub map_last : {A B : Type 0} (g : A → B) (xs : List A) (x : A) → prelude.map g (xs ++ x ∷ []) ≡ prelude.map g xs ++ g x ∷ []
map_last g [] x = refl
map_last g (y ∷ xs) x = ap (λ l. g y ∷ l) (map_last g xs x)

pub blocks_last : (test : Item → Bool) (items : List Item) (i : Item) → blocks_of (filter test (items ++ i ∷ [])) ≡ blocks_of (filter test items) + cond (test i) i.blocks 0
blocks_last test [] i = elim (test i) as (λ b. blocks_of (cond b (i ∷ []) []) ≡ 0 + cond b i.blocks 0) [ true ↦ omega arith | false ↦ refl ]
blocks_last test (j ∷ items) i =
    let rest = blocks_last test items i in
    elim (test j) as (λ b. blocks_of (cond b (j ∷ filter test (items ++ i ∷ [])) (filter test (items ++ i ∷ []))) ≡ blocks_of (cond b (j ∷ filter test items) (filter test items)) + cond (test i) i.blocks 0) [
      | true ↦ omega (arith, rest)
      | false ↦ rest
    ]

all_differ : (fids : List Fid) (f : Fid) → is_listed fids f ≡ false → AllByRecursion (λ y. same_fid f y ≡ false) fids
all_differ [] f h = tt
all_differ (g ∷ fids) f h = (elim (same_fid g f) as (λ b. same_fid g f ≡ b → (b || is_listed fids f) ≡ false → AllByRecursion (λ y. same_fid f y ≡ false) (g ∷ fids)) [
  | true ↦ λ e rest. absurd (both_ways _ rest refl)
  | false ↦ λ e rest. (not_same f g (λ same. both_ways _ e (ap (same_fid g) same ∙ same_fid_refl g)), all_differ fids f rest)
]) refl h

pub alike : (one other : Fid → Item) (fids : List Fid) (f : Fid) → ((g : Fid) → g ≢ f → one g ≡ other g) → is_listed fids f ≡ false → prelude.map one fids ≡ prelude.map other fids
alike one other [] f same h = refl
alike one other (g ∷ fids) f same h = (elim (same_fid g f) as (λ b. same_fid g f ≡ b → (b || is_listed fids f) ≡ false → prelude.map one (g ∷ fids) ≡ prelude.map other (g ∷ fids)) [
  | true ↦ λ e rest. absurd (both_ways _ rest refl)
  | false ↦ λ e rest. (λ i. same g (λ at. both_ways _ e (ap (λ x. same_fid x f) at ∙ same_fid_refl f)) i ∷ alike one other fids f same rest i)
]) refl h

-- the item of a cached node, and of any node where the node that is put wasn't cached
abbrev cached_item : CacheState → Fid → ℕ → Fid → Item
cached_item c f blocks g = item_after f blocks (item_of c g)

abbrev other_item : CacheState → Fid → Option Fid → ℕ → Fid → Item
other_item c f parent blocks g = cond (same_fid g f) (new_item c f parent blocks) (item_of c g)

module _ (c : CacheState) (k : IsCache c) (f : Fid) (parent : Option Fid) (blocks : ℕ) (keep : List Fid) (may : MayHold c f parent)
    (fits : pinned_blocks (items_of c) + needed_for c f parent blocks keep ≤ c.size) where
  cached_room : is_cached c f ≡ true → MakesRoom c.size (kept_for c f parent keep) (prelude.map (λ g. item_after f blocks (item_of c g)) c.recency)
  cached_room there =
      let sum = sum_with c k f parent blocks keep may (cached_item c f blocks) fid_is parent_is pinned_is blocks_here blocks_else c.recency k.once in
      room c k f parent blocks keep may (cached_item c f blocks) fid_is parent_is pinned_is blocks_here blocks_else c.recency (omega (arith, sum, fits))
    where
      fid_is : (g : Fid) → ((cached_item c f blocks) g).fid ≡ g
      fid_is g = elim (same_fid g f) as (λ b. (cond b (item_put blocks (item_of c g)) (item_of c g)).fid ≡ g) [ true ↦ refl | false ↦ refl ]

      parent_is : (g : Fid) → ((cached_item c f blocks) g).parent ≡ cond (same_fid g f) (parent_then c f parent) (parent_of c g)
      parent_is g = (elim (same_fid g f) as (λ b. same_fid g f ≡ b → (cond b (item_put blocks (item_of c g)) (item_of c g)).parent ≡ cond b (parent_then c f parent) (parent_of c g)) [
        | true ↦ λ e. ap (parent_of c) (same_fid_is g f e) ∙ sym (ap (λ b. if b then parent_of c f else parent) there)
        | false ↦ λ _. refl
      ]) refl

      pinned_is : (g : Fid) → ((cached_item c f blocks) g).pinned ≡ is_pinned c g
      pinned_is g = elim (same_fid g f) as (λ b. (cond b (item_put blocks (item_of c g)) (item_of c g)).pinned ≡ is_pinned c g) [ true ↦ refl | false ↦ refl ]

      blocks_here : ((cached_item c f blocks) f).blocks ≡ blocks
      blocks_here = ap (λ b. (cond b (item_put blocks (item_of c f)) (item_of c f)).blocks) (same_fid_refl f)

      blocks_else : (g : Fid) → g ≢ f → ((cached_item c f blocks) g).blocks ≡ blocks_at c g
      blocks_else g apart = ap (λ b. (cond b (item_put blocks (item_of c g)) (item_of c g)).blocks) (not_same g f apart)

  not_pinned : is_cached c f ≡ false → is_pinned c f ≡ false
  not_pinned free = (elim (is_pinned c f) as (λ b. is_pinned c f ≡ b → b ≡ false) [ true ↦ λ pinned. absurd (both_ways _ free (pinned_cached c k f pinned)) | false ↦ λ _. refl ]) refl

  new_room : is_cached c f ≡ false → MakesRoom c.size (kept_for c f parent keep) (items_of c ++ new_item c f parent blocks ∷ [])
  new_room free =
      let unlisted = k.used f ∙ free in
      let sum = sum_else c k f parent blocks keep may (other_item c f parent blocks) fid_is parent_is pinned_is blocks_here blocks_else c.recency (all_differ c.recency f unlisted) in
      let last = ap (λ l. blocks_of (filter (stays (kept_for c f parent keep)) l)) (map_last (other_item c f parent blocks) c.recency f) ∙ blocks_last (stays (kept_for c f parent keep)) (prelude.map (other_item c f parent blocks) c.recency) ((other_item c f parent blocks) f) in
      let own = at_most c k f parent blocks keep may (other_item c f parent blocks) fid_is parent_is pinned_is blocks_here blocks_else (stays (kept_for c f parent keep) ((other_item c f parent blocks) f)) ((other_item c f parent blocks) f).blocks in
      let here = blocks_here in
      let more : more_blocks c f blocks ≡ blocks = ap (λ b. if b then blocks - blocks_at c f else blocks) (not_pinned free) in
      subst (MakesRoom c.size (kept_for c f parent keep)) (map_last (other_item c f parent blocks) c.recency f ∙ (λ i. alike (other_item c f parent blocks) (item_of c) c.recency f item_else unlisted i ++ item_here i ∷ []))
      (room c k f parent blocks keep may (other_item c f parent blocks) fid_is parent_is pinned_is blocks_here blocks_else (c.recency ++ f ∷ []) (omega (arith, sum, last, own, here, more, fits)))
    where
      item_here : (other_item c f parent blocks) f ≡ new_item c f parent blocks
      item_here = ap (λ b. cond b (new_item c f parent blocks) (item_of c f)) (same_fid_refl f)

      item_else : (g : Fid) → g ≢ f → (other_item c f parent blocks) g ≡ item_of c g
      item_else g apart = ap (λ b. cond b (new_item c f parent blocks) (item_of c g)) (not_same g f apart)

      fid_is : (g : Fid) → ((other_item c f parent blocks) g).fid ≡ g
      fid_is g = (elim (same_fid g f) as (λ b. same_fid g f ≡ b → (cond b (new_item c f parent blocks) (item_of c g)).fid ≡ g) [ true ↦ λ e. sym (same_fid_is g f e) | false ↦ λ _. refl ]) refl

      parent_is : (g : Fid) → ((other_item c f parent blocks) g).parent ≡ cond (same_fid g f) (parent_then c f parent) (parent_of c g)
      parent_is g = elim (same_fid g f) as (λ b. (cond b (new_item c f parent blocks) (item_of c g)).parent ≡ cond b (parent_then c f parent) (parent_of c g)) [
        | true ↦ sym (ap (λ b. if b then parent_of c f else parent) free)
        | false ↦ refl
      ]

      pinned_is : (g : Fid) → ((other_item c f parent blocks) g).pinned ≡ is_pinned c g
      pinned_is g = (elim (same_fid g f) as (λ b. same_fid g f ≡ b → (cond b (new_item c f parent blocks) (item_of c g)).pinned ≡ is_pinned c g) [
        | true ↦ λ e. sym (ap (is_pinned c) (same_fid_is g f e) ∙ not_pinned free)
        | false ↦ λ _. refl
      ]) refl

      blocks_here : ((other_item c f parent blocks) f).blocks ≡ blocks
      blocks_here = ap (λ (i : Item). i.blocks) item_here

      blocks_else : (g : Fid) → g ≢ f → ((other_item c f parent blocks) g).blocks ≡ blocks_at c g
      blocks_else g apart = ap (λ (i : Item). i.blocks) (item_else g apart)

  makes_room_for : MakesRoom c.size (kept_for c f parent keep) (items_with c f parent blocks)
  makes_room_for = (elim (is_cached c f) as (λ b. is_cached c f ≡ b → MakesRoom c.size (kept_for c f parent keep) (if b then prelude.map (item_after f blocks) (items_of c) else items_of c ++ new_item c f parent blocks ∷ [])) [
    | true ↦ λ there. subst (MakesRoom c.size (kept_for c f parent keep)) (sym (map_twice (item_after f blocks) (item_of c) c.recency)) (cached_room there)
    | false ↦ λ free. new_room free
  ]) refl

-- ---- the law

abbrev listed_in : Result (List Fid) CacheFault → List Fid
listed_in (Ok gone) = gone
listed_in (Err why) = []

pub goes_rightly_for : (c : CacheState) (f : Fid) (parent : Option Fid) (blocks : ℕ) (keep gone : List Fid) → IsCache c → MayHold c f parent → evicted_for c f parent blocks keep ≡ Ok gone → GoRightly c.size (kept_for c f parent keep) (items_with c f parent blocks) gone
unfolding evicted_for
goes_rightly_for c f parent blocks keep gone k may is =
    let over = pinned_blocks (items_of c) + needed_for c f parent blocks keep in
    let kept = kept_for c f parent keep in
    let items = items_with c f parent blocks in
    (elim (nat_lt c.size over) as (λ b. nat_lt c.size over ≡ b → (if b then Err (CacheFull (pinned_blocks (items_of c)) (needed_for c f parent blocks keep) c.size) else Ok (who_goes c.size kept items)) ≡ Ok gone → GoRightly c.size kept items gone) [
      | true ↦ λ _ h. absurd (subst (λ (r : Result (List Fid) CacheFault). OnOk r ⊥) h tt)
      | false ↦ λ e h. subst (GoRightly c.size kept items) (ap listed_in h) (who_goes_rightly c.size kept items (makes_room_for c k f parent blocks keep may (ltb-false _ _ e)))
    ]) refl is
