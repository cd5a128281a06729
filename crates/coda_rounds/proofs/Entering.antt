-- The payload of a fetch may follow.
use Rattle.std.proofs.Common.{◌≡◌, ℕ, Bool, true, false, cond, if◌then◌else◌, List, [], ◌∷◌, ◌++◌, Option, Some}
use Rattle.std.proofs.Common.{IsSome, refl, sym, ap, ◌∙◌, subst, ⊎_elim, inl, inr, ◌⊎◌}
use Rattle.std.proofs.lemmas.Bool.{or_parts, false≢true}
use Rattle.std.specs.Prelude as prelude
use Rattle.std.specs.FinMap as map
use Rattle.coda_fid.specs.Fid.{same_fid}
use Rattle.coda_fid.specs.declared.fid.Fid.{Fid}
use Rattle.coda_tree.specs.declared.node.Node.{Node}
use Rattle.coda_tree.specs.Blocks.{blocks_of as blocks_in}
use Rattle.coda_cancel.proofs.Keys.{fid_false}
use Rattle.coda_walk.specs.declared.item.Item.{Item}
use Rattle.coda_walk.specs.Going.{is_listed, stays, who_goes}
use Rattle.coda_walk.specs.Laws.{Among}
use Rattle.coda_cache.specs.State.{CacheState, is_cached}
use Rattle.coda_cache.specs.Ways.{is_pinned}
use Rattle.coda_cache.specs.Room.{item_of, items_of, new_item, item_after, items_with, kept_for, evicted_for}
use Rattle.coda_venus.specs.History.{IsDirty, MayEnterAll}
use Rattle.coda_venus.specs.Serving.{ServingClient, cache_of}
use Rattle.coda_venus.specs.Rounds.{parent_of_fetched, dropping}
use Rattle.coda_rounds.specs.Entering.{IsOrderly, WhatGoesMayBeDropped}
use Rattle.coda_rounds.proofs.Staying.{among_parts, put_fid, by_room}
use Rattle.coda_rounds.proofs.Items.{among_of, parent_at, recent_is, recent_from, dirty_pinned, item_is}
use Rattle.coda_rounds.proofs.Dropped.{Tell, may_drop_all}

-- ---- the items of the cache with what is fetched

put_pinned : (f : Fid) (blocks : ℕ) (i : Item) → (item_after f blocks i).pinned ≡ i.pinned
put_pinned f blocks i = elim (same_fid i.fid f) as (λ b. (cond b (record i { blocks = blocks }) i).pinned ≡ i.pinned) [ true ↦ refl | false ↦ refl ]

put_parent : (f : Fid) (blocks : ℕ) (i : Item) → (item_after f blocks i).parent ≡ i.parent
put_parent f blocks i = elim (same_fid i.fid f) as (λ b. (cond b (record i { blocks = blocks }) i).parent ≡ i.parent) [ true ↦ refl | false ↦ refl ]

-- an item with other blocks
from_put : (f : Fid) (blocks : ℕ) (xs : List Item) (i : Item) → Among i (prelude.map (item_after f blocks) xs)
    → (j : Item) × Among j xs × (j.fid ≡ i.fid) × (j.pinned ≡ i.pinned)
from_put f blocks [] i h = absurd h
from_put f blocks (x ∷ xs) i (inl same) = (
  x,
  inl refl,
  sym (put_fid f blocks x) ∙ ap (λ (j : Item). j.fid) same,
  sym (put_pinned f blocks x) ∙ ap (λ (j : Item). j.pinned) same,
)
from_put f blocks (x ∷ xs) i (inr more) =
    (let j = from_put f blocks xs i more in (j.0, inr j.1, j.2, j.3))

pub into_put : (f : Fid) (blocks : ℕ) (xs : List Item) (i : Item) → Among i xs
    → Among (item_after f blocks i) (prelude.map (item_after f blocks) xs)
into_put f blocks [] i h = absurd h
into_put f blocks (x ∷ xs) i (inl same) = inl (ap (item_after f blocks) same)
into_put f blocks (x ∷ xs) i (inr more) = inr (into_put f blocks xs i more)

pub in_front : (xs ys : List Item) (i : Item) → Among i xs → Among i (xs ++ ys)
in_front [] ys i h = absurd h
in_front (x ∷ xs) ys i (inl same) = inl same
in_front (x ∷ xs) ys i (inr more) = inr (in_front xs ys i more)

module _ (c : CacheState) (f : Fid) (parent : Option Fid) (blocks : ℕ) where
  -- an item is that of what is fetched, or one of the cache
  was_item : (i : Item) (b : Bool) → Among i (if b then prelude.map (item_after f blocks) (items_of c) else items_of c ++ new_item c f parent blocks ∷ []) → (f ≡ i.fid) ⊎ ((j : Item) × Among j (items_of c) × (j.fid ≡ i.fid) × (j.pinned ≡ i.pinned))
  was_item i true h = inr (from_put f blocks (items_of c) i h)
  was_item i false h =
      ⊎_elim (λ (a : Among i (items_of c)). inr (i, a, refl, refl))
      (λ (b : Among i (new_item c f parent blocks ∷ [])). inl (only b))
      (among_parts (items_of c) (new_item c f parent blocks ∷ []) i h)
    where
      only : Among i (new_item c f parent blocks ∷ []) → f ≡ i.fid
      only (inl same) = ap (λ (j : Item). j.fid) same
      only (inr none) = absurd none

  -- and each of the cache has one
  then_item : (i : Item) (b : Bool) → Among i (items_of c) → (j : Item) × Among j (if b then prelude.map (item_after f blocks) (items_of c) else items_of c ++ new_item c f parent blocks ∷ []) × (j.fid ≡ i.fid) × (j.parent ≡ i.parent)
  then_item i true h =
      (item_after f blocks i, into_put f blocks (items_of c) i h, put_fid f blocks i, put_parent f blocks i)
  then_item i false h = (i, in_front (items_of c) (new_item c f parent blocks ∷ []) i h, refl, refl)

-- ---- who goes for a fetch

module _ (s : ServingClient) (f : Fid) (node : Node) (keep : List Fid) (orderly : IsOrderly s) where
  abbrev cache : CacheState
  cache = cache_of s

  abbrev parent : Option Fid
  parent = parent_of_fetched s.client.held f

  abbrev kept : List Fid
  kept = kept_for cache f parent keep

  abbrev items : List Item
  items = items_with cache f parent (blocks_in node.kind)

  goer_there : (i : Item) → Among i items → stays kept i ≡ false
      → IsSome (map.get s.client.held.nodes i.fid) × (¬ IsDirty s.client i.fid)
  goer_there i h free = ⊎_elim
      (λ (same : f ≡ i.fid). absurd
      (fid_false f i.fid (or_parts (same_fid f i.fid) _ (or_parts i.pinned (is_listed kept i.fid) free).1).0 same))
      (λ (was : (j : Item) × Among j (items_of cache) × (j.fid ≡ i.fid) × (j.pinned ≡ i.pinned)).
      let is = item_is s was.0 was.1 in
      let recent : is_listed cache.recency i.fid ≡ true = subst (λ x. is_listed cache.recency x ≡ true) was.2 is.0 in
      let pinned : i.pinned ≡ is_pinned cache i.fid = sym was.3 ∙ is.1 ∙ ap (is_pinned cache) was.2 in (
        (recent_is s i.fid recent).0,
        λ dirty. false≢true (sym (or_parts i.pinned (is_listed kept i.fid) free).0 ∙ pinned
            ∙ dirty_pinned s i.fid recent dirty),
      ))
      (was_item cache f parent (blocks_in node.kind) i (is_cached cache f) h)

  goer_above : (g : Fid) (i : Item) → map.get s.client.held.parents g ≡ Some i.fid → Among i items
      → stays kept i ≡ false → (j : Item) × Among j items × (j.fid ≡ g) × (j.parent ≡ Some i.fid)
  goer_above g i at h free =
      let there = orderly.cached g i.fid at in
      let one = among_of (item_of cache) cache.recency g (recent_from s g there (orderly.used g there)) in
      let now = then_item cache f parent (blocks_in node.kind) (item_of cache g) (is_cached cache f) one in
      (now.0, now.1, now.2, now.3 ∙ parent_at s g there ∙ at)

  tells : Tell kept s.client items
  tells = record { there = goer_there; above = goer_above }

pub what_goes_may_be_dropped : WhatGoesMayBeDropped
unfolding evicted_for who_goes
what_goes_may_be_dropped s f node keep gone orderly room =
    subst (λ l. MayEnterAll s.client (dropping l)) (by_room s f node keep _ _ _ gone room)
    (may_drop_all _ (cache_of s).size _ _ s.client (tells s f node keep orderly))
