-- Who goes for a node, found by the queue of the cached nodes.
use Rattle.std.proofs.Common.{◌≡◌, ℕ, ◌+◌, ◌-◌, ◌≤◌, Bool, true, false, cond, not, ◌||◌, ◌&&◌, List, [], ◌∷◌, ◌++◌, Option, Some, None, is_some, refl, sym, ap, ◌∙◌, inl, inr, arith, append-nil}
use Rattle.std.specs.Prelude as prelude
use Rattle.std.specs.Prelude.{if◌then◌else◌, nat_le, nat_lt, Ok, Err}
use Rattle.std.specs.Option.{option_map_or}
use Rattle.std.specs.List.{filter, list_any}
use Rattle.std.specs.FinMap as map
use Rattle.std.proofs.lemmas.Bool.{both_ways, false_from_ne_true, le-leb, le-ltb}
use Rattle.coda_fid.specs.declared.fid.Fid.{Fid}
use Rattle.coda_fid.specs.Fid.{same_fid}
use Rattle.coda_fid.proofs.Fids.{same_fid_is, same_fid_refl}
use Rattle.coda_tree.specs.declared.node.Node.{Node}
use Rattle.coda_tree.specs.Blocks as blocks
use Rattle.coda_walk.specs.declared.item.Item.{Item}
use Rattle.coda_walk.specs.Going.{blocks_of, is_listed, is_under, stays, who_goes}
use Rattle.coda_walk.specs.Laws.{Among}
use Rattle.coda_walk.specs.Queue.{IsQueueOf, used_at, place_in}
use Rattle.coda_walk.specs.declared.queue.Queue.{Queue}
use Rattle.coda_walk.proofs.Departs.{who_fits}
use Rattle.coda_cache.specs.declared.hold.Hold.{Hold}
use Rattle.coda_cache.specs.declared.fault.CacheFault.TheVariants.{CacheFull}
use Rattle.coda_cache.specs.State.{CacheState, is_cached, is_dirty, parent_of, blocks_at}
use Rattle.coda_cache.specs.Ways.{way_up, is_below, is_pinned}
use Rattle.coda_cache.specs.Keeping.{Agree}
use Rattle.coda_cache.specs.Room.{item_of, items_of, pinned_blocks, with_ancestors, item_put, new_item, item_after, items_with, way_from, parent_then, kept_for, is_needed, needed_for, blocks_where, evicted_for}
use Rattle.coda_cache.specs.Indexed.{standing_of, standings, blocks_beside}
use Rattle.coda_cache.proofs.Alike.{who_goes_alike}
use Rattle.coda_cache.proofs.Operated.{self_on_way}
use Rattle.coda_cache.proofs.Rightly.{map_twice}
use Rattle.coda_cache.proofs.Summed.{AreFresh, fresh_items, sum_on, sum_in}
use Rattle.coda_cache.proofs.Uses.{same_turned}

-- ---- who is dirty, and who is pinned

pub bool_both : (a b : Bool) → (a ≡ true → b ≡ true) → (b ≡ true → a ≡ true) → a ≡ b
bool_both true b there back = sym (there refl)
bool_both false true there back = back refl
bool_both false false there back = refl

pub both_parts : (a b : Bool) → (a && b) ≡ true → (a ≡ true) × (b ≡ true)
both_parts true b h = (refl, h)
both_parts false b h = absurd (both_ways _ refl h)

pub any_listed : (test : Fid → Bool) (fids : List Fid) (d : Fid) → is_listed fids d ≡ true → test d ≡ true → list_any test fids ≡ true
any_listed test [] d listed t = absurd (both_ways _ refl listed)
any_listed test (g ∷ fids) d listed t = (elim (same_fid g d) as (λ b. same_fid g d ≡ b → (b || is_listed fids d) ≡ true → (test g || list_any test fids) ≡ true) [
  | true ↦ λ e _. ap (λ b. b || list_any test fids) (ap test (same_fid_is g d e) ∙ t)
  | false ↦ λ _ rest. or_later (test g) (list_any test fids) (any_listed test fids d rest t)
]) refl listed
  where
    or_later : (b x : Bool) → x ≡ true → (b || x) ≡ true
    or_later true x h = refl
    or_later false x h = h

pub any_from : (test : Fid → Bool) (fids : List Fid) → list_any test fids ≡ true → (d : Fid) × (is_listed fids d ≡ true) × (test d ≡ true)
any_from test [] h = absurd (both_ways _ refl h)
any_from test (g ∷ fids) h = (elim (test g) as (λ b. test g ≡ b → (b || list_any test fids) ≡ true → (d : Fid) × (is_listed (g ∷ fids) d ≡ true) × (test d ≡ true)) [
  | true ↦ λ t _. (g, ap (λ b. b || is_listed fids g) (same_fid_refl g), t)
  | false ↦ λ _ rest. let d = any_from test fids rest in (d.0, or_later (same_fid g d.0) (is_listed fids d.0) d.1, d.2)
]) refl h
  where
    or_later : (b x : Bool) → x ≡ true → (b || x) ≡ true
    or_later true x h = refl
    or_later false x h = h

pub dirty_used : (c : CacheState) → Agree c.nodes c.holds c.recency → (d : Fid) → is_dirty c d ≡ true → is_listed c.recency d ≡ true
dirty_used c a d is = a.used d ∙ sym (a.held d) ∙ go (map.get c.holds d) is
  where
    go : (o : Option Hold) → option_map_or (λ (hold : Hold). hold.dirty) o false ≡ true → is_some o ≡ true
    go None h = absurd (both_ways _ refl h)
    go (Some hold) h = refl

pub dirty_listed : (c : CacheState) → Agree c.nodes c.holds c.recency → (f : Fid) → list_any (λ d. is_dirty c d && same_fid d f) c.recency ≡ is_dirty c f
dirty_listed c a f = bool_both _ _
    (λ h. let d = any_from (λ d. is_dirty c d && same_fid d f) c.recency h in let both = both_parts _ _ d.2 in ap (is_dirty c) (sym (same_fid_is d.0 f both.1)) ∙ both.0)
    (λ is. any_listed (λ d. is_dirty c d && same_fid d f) c.recency f (dirty_used c a f is) (ap (λ b. b && same_fid f f) is ∙ same_fid_refl f))

pub pinned_by_dirty : (c : CacheState) → Agree c.nodes c.holds c.recency → (dirty : List Fid) → ((d : Fid) → is_listed dirty d ≡ is_dirty c d) → (f : Fid) → list_any (λ d. is_dirty c d && is_below c d f) dirty ≡ is_pinned c f
pinned_by_dirty c a dirty are f =
    bool_both _ _
    (λ h. let d = any_from (λ d. is_dirty c d && is_below c d f) dirty h in any_listed (λ d. is_dirty c d && is_below c d f) c.recency d.0 (dirty_used c a d.0 (both_parts _ _ d.2).0) d.2)
    (λ h. let d = any_from (λ d. is_dirty c d && is_below c d f) c.recency h in any_listed (λ d. is_dirty c d && is_below c d f) dirty d.0 (are d.0 ∙ (both_parts _ _ d.2).0) d.2)

-- ---- the blocks of sets

-- the cached nodes stand once in the order of use
pub fresh_queue : (q : Queue) (c : CacheState) → IsQueueOf q (standings c) → AreFresh c.recency
fresh_queue q c is = fresh_items (used_at (place_in q.places)) (standing_of c) (λ g. refl) c.recency is.queued.rises

pub beside_sum : (c : CacheState) (test : Fid → Bool) (fids : List Fid) → blocks_beside c test fids ≡ sum_on (λ g. cond (test g) 0 (item_of c g).blocks) fids
beside_sum c test [] = refl
beside_sum c test (g ∷ fids) = ap (λ n. cond (test g) 0 (blocks_at c g) + n) (beside_sum c test fids)

pub no_blocks : (c : CacheState) (g : Fid) → is_cached c g ≡ false → blocks_at c g ≡ 0
no_blocks c g free = go (map.get c.nodes g) free
  where
    go : (o : Option Node) → is_some o ≡ false → option_map_or (λ (node : Node). blocks.blocks_of node.kind) o 0 ≡ 0
    go None h = refl
    go (Some node) h = absurd (both_ways _ h refl)

module _ (c : CacheState) (a : Agree c.nodes c.holds c.recency) (fresh : AreFresh c.recency) (but : Fid → Bool) (keys : List Fid) (once : AreFresh keys) where
  unlisted_blocks : (g : Fid) → is_listed c.recency g ≡ false → blocks_at c g ≡ 0
  unlisted_blocks g free = no_blocks c g (sym (a.used g) ∙ free)

  pub pinned_sum : ((g : Fid) → but g ≡ false) → ((g : Fid) → is_listed keys g ≡ is_pinned c g) → blocks_beside c but keys ≡ pinned_blocks (items_of c)
  pinned_sum none are = beside_sum c but keys ∙ sum_in (item_of c) (λ i. i.pinned) but c.recency keys fresh once unlisted_blocks (λ g. same (is_pinned c g) ∙ (λ i. sym (are g) i && not (sym (none g) i)))
    where
      same : (b : Bool) → b ≡ (b && not false)
      same true = refl
      same false = refl

  pub needed_sum : (f : Fid) (kept : List Fid) → ((g : Fid) → but g ≡ (is_pinned c g || same_fid f g)) → ((g : Fid) → is_listed keys g ≡ is_listed kept g) → blocks_beside c but keys ≡ blocks_where (is_needed f kept) (items_of c)
  needed_sum f kept are same = beside_sum c but keys ∙ sum_in (item_of c) (is_needed f kept) but c.recency keys fresh once unlisted_blocks
      (λ g. (λ i. not (same_turned g f i) && (not (is_pinned c g) && is_listed kept g)) ∙ bools (same_fid f g) (is_pinned c g) (is_listed kept g) ∙ (λ i. sym (same g) i && not (sym (are g) i)))
    where
      bools : (s p l : Bool) → (not s && (not p && l)) ≡ (l && not (p || s))
      bools true true true = refl
      bools true true false = refl
      bools true false true = refl
      bools true false false = refl
      bools false true true = refl
      bools false true false = refl
      bools false false true = refl
      bools false false false = refl

-- ---- for a node that is put

either_false : (a b : Bool) → (a || b) ≡ false → (a ≡ false) × (b ≡ false)
either_false true b h = absurd (both_ways _ h refl)
either_false false b h = (refl, h)

blocks_joined : (l k : List Item) → blocks_of (l ++ k) ≡ blocks_of l + blocks_of k
blocks_joined [] k = omega arith
blocks_joined (i ∷ l) k = let rest = blocks_joined l k in omega (arith, rest)

module _ (c : CacheState) (a : Agree c.nodes c.holds c.recency) (fresh : AreFresh c.recency) (f : Fid) (parent : Option Fid) (blocks : ℕ) (keep : List Fid) where
  abbrev kept : List Fid
  kept = kept_for c f parent keep

  abbrev new : Item
  new = new_item c f parent blocks

  abbrev after : Fid → Item
  after g = item_after f blocks (item_of c g)

  turned : (g : Fid) → same_fid f g ≡ false → same_fid g f ≡ false
  turned g e = false_from_ne_true _ (λ t. both_ways _ e (ap (same_fid f) (same_fid_is g f t) ∙ same_fid_refl f))

  same_sum : (fids : List Fid) → blocks_of (prelude.map (item_of c) fids) ≡ blocks_of (prelude.map (standing_of c) fids)
  same_sum [] = refl
  same_sum (g ∷ fids) = ap (λ n. blocks_at c g + n) (same_sum fids)

  after_else : (fids : List Fid) → is_listed fids f ≡ false → blocks_of (prelude.map after fids) ≡ blocks_of (prelude.map (standing_of c) fids)
  after_else [] free = refl
  after_else (g ∷ fids) free =
      let parts = either_false (same_fid g f) (is_listed fids f) free in
      λ i. (cond (parts.0 i) (item_put blocks (item_of c g)) (item_of c g)).blocks + after_else fids parts.1 i

  after_sum : (fids : List Fid) → AreFresh fids → is_listed fids f ≡ true → blocks_of (prelude.map after fids) + blocks_at c f ≡ blocks_of (prelude.map (standing_of c) fids) + blocks
  after_sum [] fr listed = absurd (both_ways _ refl listed)
  after_sum (g ∷ fids) fr listed = (elim (same_fid g f) as (λ b. same_fid g f ≡ b → (b || is_listed fids f) ≡ true → ((cond b (item_put blocks (item_of c g)) (item_of c g)).blocks + blocks_of (prelude.map after fids)) + blocks_at c f ≡ (blocks_at c g + blocks_of (prelude.map (standing_of c) fids)) + blocks) [
    | true ↦ λ e _.
        let rest = after_else fids (ap (is_listed fids) (sym (same_fid_is g f e)) ∙ fr.0) in
        let own = ap (blocks_at c) (same_fid_is g f e) in
        omega (arith, rest, own)
    | false ↦ λ _ later. let rest = after_sum fids fr.1 later in omega (arith, rest)
  ]) refl listed

  cached_items : is_cached c f ≡ true → items_with c f parent blocks ≡ prelude.map after c.recency ++ []
  cached_items there = ap (λ b. if b then prelude.map (item_after f blocks) (items_of c) else items_of c ++ new ∷ []) there ∙ map_twice (item_after f blocks) (item_of c) c.recency ∙ sym (append-nil (prelude.map after c.recency))

  new_items : is_cached c f ≡ false → items_with c f parent blocks ≡ items_of c ++ new ∷ []
  new_items free = ap (λ b. if b then prelude.map (item_after f blocks) (items_of c) else items_of c ++ new ∷ []) free

  cached_sum : is_cached c f ≡ true → blocks_of (prelude.map after c.recency ++ []) + blocks_at c f ≡ blocks_of (standings c) + blocks
  cached_sum there = ap (λ l. blocks_of l + blocks_at c f) (append-nil (prelude.map after c.recency)) ∙ after_sum c.recency fresh (a.used f ∙ there)

  new_sum : is_cached c f ≡ false → blocks_of (items_of c ++ new ∷ []) + blocks_at c f ≡ blocks_of (standings c) + blocks
  new_sum free =
      let joined = blocks_joined (items_of c) (new ∷ []) in
      let same = same_sum c.recency in
      let none = no_blocks c f free in
      omega (arith, joined, same, none)

  -- the blocks of the items once the node is put
  sum_with : blocks_of (items_with c f parent blocks) + blocks_at c f ≡ blocks_of (standings c) + blocks
  sum_with = (elim (is_cached c f) as (λ b. is_cached c f ≡ b → blocks_of (items_with c f parent blocks) + blocks_at c f ≡ blocks_of (standings c) + blocks) [
    | true ↦ λ there. ap (λ l. blocks_of l + blocks_at c f) (cached_items there) ∙ cached_sum there
    | false ↦ λ free. ap (λ l. blocks_of l + blocks_at c f) (new_items free) ∙ new_sum free
  ]) refl

  module _ (other : List Fid) (are : (g : Fid) → is_listed other g ≡ (is_pinned c g || is_listed kept g)) (size : ℕ) (sizes : c.size + blocks_at c f ≡ size + blocks) where
    cached_goes : is_cached c f ≡ true → who_goes size other (standings c) ≡ who_goes c.size kept (prelude.map after c.recency ++ [])
    cached_goes there =
        who_goes_alike (standing_of c) after kept other [] (λ g. refl) fid_is parent_is priority_is stay_is blocks_is (λ t h. absurd h) size c.size blocks (blocks_at c f) c.recency (λ g listed h. absurd (both_ways _ refl h)) (cached_sum there) sizes
      where
        fid_is : (g : Fid) → (after g).fid ≡ g
        fid_is g = elim (same_fid g f) as (λ b. (cond b (item_put blocks (item_of c g)) (item_of c g)).fid ≡ g) [ true ↦ refl | false ↦ refl ]

        parent_is : (g : Fid) → (standing_of c g).parent ≡ (after g).parent
        parent_is g = elim (same_fid g f) as (λ b. (standing_of c g).parent ≡ (cond b (item_put blocks (item_of c g)) (item_of c g)).parent) [ true ↦ refl | false ↦ refl ]

        priority_is : (g : Fid) → (standing_of c g).priority ≡ (after g).priority
        priority_is g = elim (same_fid g f) as (λ b. (standing_of c g).priority ≡ (cond b (item_put blocks (item_of c g)) (item_of c g)).priority) [ true ↦ refl | false ↦ refl ]

        stay_is : (g : Fid) → stays other (standing_of c g) ≡ stays kept (after g)
        stay_is g = are g ∙ (elim (same_fid g f) as (λ b. (is_pinned c g || is_listed kept g) ≡ stays kept (cond b (item_put blocks (item_of c g)) (item_of c g))) [ true ↦ refl | false ↦ refl ])

        blocks_is : (g : Fid) → stays other (standing_of c g) ≡ false → (standing_of c g).blocks ≡ (after g).blocks
        blocks_is g free = ap (λ b. (cond b (item_put blocks (item_of c g)) (item_of c g)).blocks) (sym (turned g (either_false _ _ (either_false (is_pinned c g) (is_listed kept g) (sym (are g) ∙ free)).1).0))

    new_goes : is_cached c f ≡ false → who_goes size other (standings c) ≡ who_goes c.size kept (items_of c ++ new ∷ [])
    new_goes free =
        who_goes_alike (standing_of c) (item_of c) kept other (new ∷ []) (λ g. refl) (λ g. refl) (λ g. refl) (λ g. refl) are (λ g _. refl) more_kept size c.size blocks (blocks_at c f) c.recency above (new_sum free) sizes
      where
        more_kept : (t : Item) → Among t (new ∷ []) → is_listed kept t.fid ≡ true
        more_kept t (inl same) = ap (λ (i : Item). is_listed kept i.fid) (sym same) ∙ ap (λ b. b || is_listed (way_from c (parent_then c f parent) ++ with_ancestors c keep) f) (same_fid_refl f)
        more_kept t (inr h) = absurd h

        or_later : (x y : Bool) → y ≡ true → (x || y) ≡ true
        or_later true y h = refl
        or_later false y h = h

        joined : (fids more : List Fid) (g : Fid) → is_listed fids g ≡ true → is_listed (fids ++ more) g ≡ true
        joined [] more g h = absurd (both_ways _ refl h)
        joined (x ∷ fids) more g h = (elim (same_fid x g) as (λ b. (b || is_listed fids g) ≡ true → (b || is_listed (fids ++ more) g) ≡ true) [
          | true ↦ λ _. refl
          | false ↦ λ rest. joined fids more g rest
        ]) h

        up : (o : Option Fid) (g : Fid) → is_listed c.recency g ≡ true → (option_map_or (λ p. same_fid p g) o false || false) ≡ true → is_listed (way_from c o) g ≡ true
        up None g listed h = absurd (both_ways _ refl h)
        up (Some p) g listed h =
            let at = same_fid_is p g (only (same_fid p g) h) in
            ap (λ x. is_listed (way_up c x) g) at ∙ self_on_way c g (a.held g ∙ sym (a.used g) ∙ listed)
          where
            only : (b : Bool) → (b || false) ≡ true → b ≡ true
            only true h = refl
            only false h = h

        above : (g : Fid) → is_listed c.recency g ≡ true → list_any (is_under g) (new ∷ []) ≡ true → stays kept (item_of c g) ≡ true
        above g listed under =
            let from : parent_then c f parent ≡ parent = ap (λ b. if b then parent_of c f else parent) free in
            or_later (is_pinned c g) (is_listed kept g) (or_later (same_fid f g) _ (joined (way_from c (parent_then c f parent)) (with_ancestors c keep) g (ap (λ o. is_listed (way_from c o) g) from ∙ up parent g listed under)))

    -- who goes from the queue is who goes for the node
    pub goes_for : who_goes size other (standings c) ≡ who_goes c.size kept (items_with c f parent blocks)
    goes_for = (elim (is_cached c f) as (λ b. is_cached c f ≡ b → who_goes size other (standings c) ≡ who_goes c.size kept (items_with c f parent blocks)) [
      | true ↦ λ there. cached_goes there ∙ ap (who_goes c.size kept) (sym (cached_items there))
      | false ↦ λ free. new_goes free ∙ ap (who_goes c.size kept) (sym (new_items free))
    ]) refl

  -- ---- where there is room

  one_more : (test : Item → Bool) (i : Item) (items : List Item) → blocks_of (filter test (i ∷ items)) ≡ cond (test i) i.blocks 0 + blocks_of (filter test items)
  one_more test i items = elim (test i) as (λ b. blocks_of (cond b (i ∷ filter test items) (filter test items)) ≡ cond b i.blocks 0 + blocks_of (filter test items)) [ true ↦ refl | false ↦ omega arith ]

  share : (s p l : Bool) (n : ℕ) → cond p n 0 + cond (not s && (not p && l)) n 0 ≤ n
  share true true l n = omega arith
  share true false l n = omega arith
  share false true l n = omega arith
  share false false true n = omega arith
  share false false false n = omega arith

  abbrev pinned_in : List Fid → ℕ
  pinned_in fids = pinned_blocks (prelude.map (item_of c) fids)

  abbrev needed_in : List Fid → ℕ
  needed_in fids = blocks_where (is_needed f kept) (prelude.map (item_of c) fids)

  at_most : (fids : List Fid) → pinned_in fids + needed_in fids ≤ blocks_of (prelude.map (standing_of c) fids)
  at_most [] = omega arith
  at_most (g ∷ fids) =
      let rest = at_most fids in
      let p = one_more (λ (i : Item). i.pinned) (item_of c g) (prelude.map (item_of c) fids) in
      let n = one_more (is_needed f kept) (item_of c g) (prelude.map (item_of c) fids) in
      let here = share (same_fid g f) (is_pinned c g) (is_listed kept g) (blocks_at c g) in
      omega (arith, rest, p, n, here)

  at_most_else : is_pinned c f ≡ false → (fids : List Fid) → is_listed fids f ≡ true → pinned_in fids + needed_in fids + blocks_at c f ≤ blocks_of (prelude.map (standing_of c) fids)
  at_most_else free [] listed = absurd (both_ways _ refl listed)
  at_most_else free (g ∷ fids) listed =
      let p = one_more (λ (i : Item). i.pinned) (item_of c g) (prelude.map (item_of c) fids) in
      let n = one_more (is_needed f kept) (item_of c g) (prelude.map (item_of c) fids) in
      (elim (same_fid g f) as (λ b. same_fid g f ≡ b → (b || is_listed fids f) ≡ true → pinned_in (g ∷ fids) + needed_in (g ∷ fids) + blocks_at c f ≤ blocks_at c g + blocks_of (prelude.map (standing_of c) fids)) [
        | true ↦ λ e _.
            let at = same_fid_is g f e in
            let rest = at_most fids in
            let own = ap (blocks_at c) at in
            let no_p : cond (is_pinned c g) (blocks_at c g) 0 ≡ 0 = ap (λ b. cond b (blocks_at c g) 0) (ap (is_pinned c) at ∙ free) in
            let no_n : cond (is_needed f kept (item_of c g)) (blocks_at c g) 0 ≡ 0 = ap (λ b. cond (not b && (not (is_pinned c g) && is_listed kept g)) (blocks_at c g) 0) e in
            omega (arith, p, n, rest, own, no_p, no_n)
        | false ↦ λ _ later.
            let rest = at_most_else free fids later in
            let here = share (same_fid g f) (is_pinned c g) (is_listed kept g) (blocks_at c g) in
            omega (arith, p, n, rest, here)
      ]) refl listed

  fits_then : blocks_of (standings c) + (blocks - blocks_at c f) ≤ c.size → pinned_blocks (items_of c) + needed_for c f parent blocks keep ≤ c.size
  fits_then room = (elim (is_pinned c f) as (λ b. is_pinned c f ≡ b → pinned_in c.recency + ((if b then blocks - blocks_at c f else blocks) + needed_in c.recency) ≤ c.size) [
    | true ↦ λ _. let all = at_most c.recency in omega (arith, all, room)
    | false ↦ λ free. (elim (is_cached c f) as (λ b. is_cached c f ≡ b → pinned_in c.recency + (blocks + needed_in c.recency) ≤ c.size) [
      | true ↦ λ there. let all = at_most_else free c.recency (a.used f ∙ there) in omega (arith, all, room)
      | false ↦ λ gone. let all = at_most c.recency in let none = no_blocks c f gone in omega (arith, all, none, room)
    ]) refl
  ]) refl

  -- where there is room beside all that is cached nobody goes
  pub none_goes : blocks_of (standings c) + (blocks - blocks_at c f) ≤ c.size → evicted_for c f parent blocks keep ≡ Ok []
  unfolding evicted_for
  none_goes room =
      let over = le-ltb _ _ (fits_then room) in
      let sum = sum_with in
      ap (λ b. if b then Err (CacheFull (pinned_blocks (items_of c)) (needed_for c f parent blocks keep) c.size) else Ok (who_goes c.size kept (items_with c f parent blocks))) over
      ∙ ap (λ (l : List Fid). Ok l) (who_fits c.size kept (items_with c f parent blocks) (le-leb _ _ (omega (arith, sum, room))))
