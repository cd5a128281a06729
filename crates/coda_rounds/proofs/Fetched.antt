-- Objects that a line fetched are cached together, so they are few.
use Rattle.std.proofs.Common.{◌≡◌, ℕ, ◌≤◌, Bool, true, false, cond, ◌||◌, if◌then◌else◌, List, [], ◌∷◌, ◌++◌, length}
use Rattle.std.proofs.Common.{Option, Some, None, is_some, Ok, refl, sym, ap, ◌∙◌, subst, ⊎_elim, inl, inr, arith}
use Rattle.std.proofs.lemmas.Bool.{or_left, or_right, or_parts, false≢true, false_from_ne_true}
use Rattle.std.proofs.lemmas.Option.{none-some}
use Rattle.std.specs.Prelude as prelude
use Rattle.std.specs.FinMap as map
use Rattle.std.specs.Option.{option_map_or}
use Rattle.coda_fid.specs.Fid.{same_fid, root_of}
use Rattle.coda_fid.specs.declared.fid.Fid.{Fid}
use Rattle.coda_fid.proofs.Fids.{same_fid_refl}
use Rattle.coda_tree.specs.declared.node.Node.{Node}
use Rattle.coda_tree.specs.declared.node.NodeKind.{NodeKind}
use Rattle.coda_tree.specs.declared.node.NodeKind.TheVariants.{File, Link, Dir}
use Rattle.coda_tree.specs.Blocks.{blocks_of as blocks_in}
use Rattle.coda_tree.specs.Volume.{has}
use Rattle.coda_tree.proofs.Parents.{parent_sound, there_node}
use Rattle.coda_cancel.proofs.Keys.{fid_false, fid_other}
use Rattle.coda_walk.specs.declared.item.Item.{Item}
use Rattle.coda_walk.specs.Going.{is_listed}
use Rattle.coda_walk.specs.Laws.{Among, left, GoRightly}
use Rattle.coda_cache.specs.Laws.{MayHold}
use Rattle.coda_cache.specs.State.{CacheState, is_cached, blocks_at}
use Rattle.coda_cache.specs.Room.{item_of, items_of, new_item, item_after, items_with, kept_for}
use Rattle.coda_cache.proofs.Rightly.{goes_rightly_for}
use Rattle.coda_venus.specs.State.{ClientState}
use Rattle.coda_venus.specs.Serving.{ServingClient, cache_of}
use Rattle.coda_venus.specs.Rounds.{Installed, serving_after, parent_of_fetched_by, parent_of_fetched, goes_for_fetch}
use Rattle.coda_record.specs.declared.entry.ClientEntry.TheVariants as entry
use Rattle.coda_rounds.specs.Laws.{IsUnserved, AreAllDifferent}
use Rattle.coda_rounds.specs.Entering.{IsInOrder}
use Rattle.coda_rounds.specs.Bounds.{AreFetched}
use Rattle.coda_rounds.proofs.Caches.{left_blocks}
use Rattle.coda_rounds.proofs.Counting.{HasBlocks, few_fids}
use Rattle.coda_rounds.proofs.Entering.{into_put, in_front}
use Rattle.coda_rounds.proofs.InOrder.{in_order_cache}
use Rattle.coda_rounds.proofs.Items.{among_of, recent_from}
use Rattle.coda_rounds.proofs.Others.{here, stays, listed_last}
use Rattle.coda_rounds.proofs.Replies.{drops_first, listed_behind}
use Rattle.coda_rounds.proofs.Staying.{kept_objects_stay, listed, put_fid}

-- ---- lists

different_more : (fids : List Fid) (f : Fid) → AreAllDifferent fids → is_listed fids f ≡ false
    → AreAllDifferent (fids ++ f ∷ [])
different_more [] f different new = (refl, tt)
different_more (g ∷ fids) f different new =
    let k = or_parts (same_fid g f) (is_listed fids f) new in
    let off : same_fid f g ≡ false = fid_other f g (λ same. fid_false g f k.0 (sym same)) in (
      listed_behind g fids (f ∷ []) ∙ (λ i. different.0 i || (off i || false)),
      different_more fids f different.1 k.1,
    )

-- ---- blocks

-- a node has a block at least
one_block : (kind : NodeKind) → 1 ≤ blocks_in kind
one_block (File content) = omega arith
one_block (Link target) = omega arith
one_block (Dir entries) = omega arith

put_blocks : (f : Fid) (blocks : ℕ) (i : Item) → 1 ≤ blocks → 1 ≤ i.blocks → 1 ≤ (item_after f blocks i).blocks
put_blocks f blocks i new old = elim (same_fid i.fid f) as (λ b. 1 ≤ (cond b (record i { blocks = blocks }) i).blocks) [
  | true ↦ new
  | false ↦ old
]

at_last : (items : List Item) (i : Item) → Among i (items ++ i ∷ [])
at_last [] i = inl refl
at_last (j ∷ items) i = inr (at_last items i)

-- the cache has as many blocks as before
pub blocks_then : (s : ServingClient) (gone : List Fid) (fid : Fid) (parent : Option Fid) (node : Node) (server : ℕ)
    → (serving_after s (Installed gone fid parent node server)).client.blocks ≡ s.client.blocks
blocks_then s gone fid parent node server =
    ap (λ (c : ClientState). c.blocks) (drops_first s.client gone (entry.Fetched fid parent node ∷ []))
    ∙ left_blocks s.client gone

-- ---- a fetch for which there is room

module _ (s : ServingClient) (order : IsInOrder s) (fid : Fid) (node : Node) (fetched gone : List Fid)
    (room : goes_for_fetch s fid node fetched ≡ Ok gone) where
  abbrev cache : CacheState
  cache = cache_of s

  abbrev parent : Option Fid
  parent = parent_of_fetched s.client.held fid

  abbrev kept : List Fid
  kept = kept_for cache fid parent fetched

  abbrev items : List Item
  items = items_with cache fid parent (blocks_in node.kind)

  -- the same, by whether it is cached
  abbrev items_by : Bool → List Item
  items_by b =
      if b then prelude.map (item_after fid (blocks_in node.kind)) (items_of cache)
      else items_of cache ++ new_item cache fid parent (blocks_in node.kind) ∷ []

  -- the directory under which it is put is cached
  may_hold : MayHold cache fid parent
  may_hold p absent is = by (map.get s.client.held.nodes fid) (same_fid fid (root_of fid.volume)) absent is
    where
      by : (o : Option Node) (b : Bool) → is_some o ≡ false → parent_of_fetched_by s.client.held fid o b ≡ Some p
          → is_cached cache p ≡ true
      by (Some n) b absent is = absurd (false≢true (sym absent))
      by None true absent is = absurd (none-some p is)
      by None false absent is =
          let binds = parent_sound s.client.held.nodes fid p is in
          ap is_some (there_node (map.get s.client.held.nodes p) fid binds.0 binds.1).1

  rightly : GoRightly cache.size kept items gone
  rightly = goes_rightly_for cache fid parent (blocks_in node.kind) fetched gone (in_order_cache s order) may_hold room

  -- ---- what is cached has an item, and so has what is fetched

  cached_blocks : (g : Fid) → has s.client.held.nodes g ≡ true → 1 ≤ blocks_at cache g
  cached_blocks g there = by (map.get s.client.held.nodes g) there
    where
      by : (o : Option Node) → is_some o ≡ true → 1 ≤ option_map_or (λ (n : Node). blocks_in n.kind) o 0
      by None there = absurd (false≢true there)
      by (Some n) there = one_block n.kind

  item_then : (i : Item) → Among i (items_of cache) → 1 ≤ i.blocks → HasBlocks items i.fid
  item_then i h some = by (is_cached cache fid)
    where
      by : (b : Bool) → HasBlocks (items_by b) i.fid
      by true = (
        item_after fid (blocks_in node.kind) i,
        into_put fid (blocks_in node.kind) (items_of cache) i h,
        put_fid fid (blocks_in node.kind) i,
        put_blocks fid (blocks_in node.kind) i (one_block node.kind) some,
      )
      by false = (i, in_front (items_of cache) (new_item cache fid parent (blocks_in node.kind) ∷ []) i h, refl, some)

  cached_item : (g : Fid) → has s.client.held.nodes g ≡ true → HasBlocks items g
  cached_item g there =
      item_then (item_of cache g)
      (among_of (item_of cache) cache.recency g (recent_from s g there (order.orderly.used g there)))
      (cached_blocks g there)

  own_item : HasBlocks items fid
  own_item = by (is_cached cache fid) refl
    where
      by : (b : Bool) → is_cached cache fid ≡ b → HasBlocks items fid
      by true there = cached_item fid there
      by false absent =
          subst (λ b. HasBlocks (items_by b) fid) (sym absent) (
            new_item cache fid parent (blocks_in node.kind),
            at_last (items_of cache) (new_item cache fid parent (blocks_in node.kind)),
            refl,
            one_block node.kind,
          )

  -- what is kept is left
  left_item : (g : Fid) → is_listed kept g ≡ true → HasBlocks items g → HasBlocks (left gone items) g
  left_item g on h = (
    h.0,
    rightly.spared h.0 h.1 (or_right h.0.pinned (is_listed kept h.0.fid) (ap (is_listed kept) h.2 ∙ on)),
    h.2,
    h.3,
  )

  module _ (emulating : Bool) (are : AreFetched s fetched) (unserved : IsUnserved emulating s fid) where
    -- it is none of those that were fetched
    pub another : is_listed fetched fid ≡ false
    another = false_from_ne_true _
        (λ h. copied (s.beside.copies fid) (are.valid fid h) (unserved.stale (are.cached fid h)))
      where
        copied : (o : Option ℕ) → is_some o ≡ true → o ≡ None → ⊥
        copied None some e = false≢true some
        copied (Some server) some e = none-some server (sym e)

    different_then : AreAllDifferent (fetched ++ fid ∷ [])
    different_then = different_more fetched fid are.different another

    few_then : length (fetched ++ fid ∷ []) ≤ s.client.blocks
    few_then =
        let fits = rightly.fits in
        let count = few_fids (fetched ++ fid ∷ []) (left gone items) different_then (λ g on. ⊎_elim
        (λ (was : is_listed fetched g ≡ true).
        let there : has s.client.held.nodes g ≡ true = are.cached g was in
        left_item g (listed s fid node fetched g was (inr (recent_from s g there (order.orderly.used g there))))
        (cached_item g there))
        (λ (same : fid ≡ g). subst (λ x. HasBlocks (left gone items) x) same
        (left_item fid (or_left (same_fid fid fid) _ (same_fid_refl fid)) own_item))
        (listed_last fetched fid g on)) in
        omega (arith, fits, count)

    valid_then : (server : ℕ) (g : Fid) → is_listed (fetched ++ fid ∷ []) g ≡ true
        → (is_some (map.get (serving_after s (Installed gone fid parent node server)).client.held.nodes g) ≡ true)
        × (is_some ((serving_after s (Installed gone fid parent node server)).beside.copies g) ≡ true)
    valid_then server g on = ⊎_elim
        (λ (was : is_listed fetched g ≡ true). stays s gone fid parent node server g
        (λ same. false≢true (sym another ∙ ap (is_listed fetched) (sym same) ∙ was))
        (kept_objects_stay s fid node fetched gone room g was) (are.cached g was, are.valid g was))
        (λ (same : fid ≡ g). subst
        (λ x. (is_some (map.get (serving_after s (Installed gone fid parent node server)).client.held.nodes x) ≡ true)
        × (is_some ((serving_after s (Installed gone fid parent node server)).beside.copies x) ≡ true))
        same (here s gone fid parent node server))
        (listed_last fetched fid g on)

    then_fetched : (server : ℕ)
        → AreFetched (serving_after s (Installed gone fid parent node server)) (fetched ++ fid ∷ [])
    then_fetched server = record {
      different = different_then;
      cached = λ g on. (valid_then server g on).0;
      valid = λ g on. (valid_then server g on).1;
      few = subst (λ n. length (fetched ++ fid ∷ []) ≤ n) (sym (blocks_then s gone fid parent node server)) few_then;
    }

-- a fetch for which there is room leaves one more
pub fetched_more : (emulating : Bool) (s : ServingClient) (fid : Fid) (node : Node) (server : ℕ)
    (fetched gone : List Fid) → IsInOrder s → AreFetched s fetched → IsUnserved emulating s fid
    → goes_for_fetch s fid node fetched ≡ Ok gone
    → AreFetched (serving_after s (Installed gone fid (parent_of_fetched s.client.held fid) node server))
    (fetched ++ fid ∷ [])
fetched_more emulating s fid node server fetched gone order are unserved room =
    then_fetched s order fid node fetched gone room emulating are unserved server

-- nothing was fetched yet
pub none_fetched : (s : ServingClient) → AreFetched s []
none_fetched s = record {
  different = tt;
  cached = λ g on. absurd (false≢true on);
  valid = λ g on. absurd (false≢true on);
  few = omega arith;
}
