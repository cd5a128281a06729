-- The items of a client's cache.
use Rattle.std.proofs.Common.{◌≡◌, Bool, true, false, ◌&&◌, List, [], ◌∷◌, Option, Some, None}
use Rattle.std.proofs.Common.{is_some, option_map, refl, sym, ap, ◌∙◌, subst, ⊎_elim, inl, inr}
use Rattle.std.proofs.lemmas.Bool.{or_left, or_right, or_cases, and_parts, and_from, false≢true}
use Rattle.std.specs.Prelude as prelude
use Rattle.std.specs.List.{list_any}
use Rattle.std.specs.Option.{option_map_or}
use Rattle.std.specs.FinMap as map
use Rattle.coda_fid.specs.Fid.{same_fid}
use Rattle.coda_fid.specs.declared.fid.Fid.{Fid}
use Rattle.coda_tree.specs.declared.node.Node.{Node}
use Rattle.coda_tree.specs.Volume.{has}
use Rattle.coda_cancel.proofs.Keys.{fid_true}
use Rattle.coda_walk.specs.declared.item.Item.{Item}
use Rattle.coda_walk.specs.Going.{is_listed}
use Rattle.coda_walk.specs.Laws.{Among}
use Rattle.coda_cache.specs.declared.hold.Hold.{Hold}
use Rattle.coda_cache.specs.State.{CacheState, parent_of, parent_held, is_dirty}
use Rattle.coda_cache.specs.Ways.{is_below, is_pinned}
use Rattle.coda_cache.specs.Room.{item_of, items_of}
use Rattle.coda_cache.proofs.Operated.{self_on_way}
use Rattle.coda_cache.proofs.Kept.{listed_where}
use Rattle.coda_cache.proofs.Rightly.{among_map}
use Rattle.coda_venus.specs.Accepting.{is_mentioned}
use Rattle.coda_venus.specs.History.{IsDirty}
use Rattle.coda_venus.specs.Serving.{ServingClient, hold_of, cache_of}
use Rattle.coda_venus.proofs.ServedAlike.{held_at}
use Rattle.coda_rounds.proofs.Staying.{held}

-- ---- lists

any_listed : (test : Fid → Bool) (fids : List Fid) (g : Fid) → is_listed fids g ≡ true → test g ≡ true
    → list_any test fids ≡ true
any_listed test [] g h passes = absurd (false≢true h)
any_listed test (x ∷ fids) g h passes = ⊎_elim
    (λ (a : same_fid x g ≡ true). or_left (test x) (list_any test fids) (ap test (fid_true x g a) ∙ passes))
    (λ (b : is_listed fids g ≡ true). or_right (test x) (list_any test fids) (any_listed test fids g b passes))
    (or_cases (same_fid x g) (is_listed fids g) h)

pub among_of : (item : Fid → Item) (fids : List Fid) (g : Fid) → is_listed fids g ≡ true
    → Among (item g) (prelude.map item fids)
among_of item [] g h = absurd (false≢true h)
among_of item (x ∷ fids) g h = ⊎_elim
    (λ (a : same_fid x g ≡ true). inl (ap item (fid_true x g a)))
    (λ (b : is_listed fids g ≡ true). inr (among_of item fids g b))
    (or_cases (same_fid x g) (is_listed fids g) h)

-- ---- how a cached node is held

module _ (s : ServingClient) where
  abbrev cache : CacheState
  cache = cache_of s

  pub parent_at : (g : Fid) → has s.client.held.nodes g ≡ true → parent_of cache g ≡ map.get s.client.held.parents g
  parent_at g there = ap parent_held (held_at s g) ∙ by (map.get s.client.held.nodes g) there
    where
      by : (o : Option Node) → is_some o ≡ true
          → parent_held (option_map (λ (n : Node). hold_of s g) o) ≡ map.get s.client.held.parents g
      by None e = absurd (false≢true e)
      by (Some n) e = refl

  dirty_at : (g : Fid) → has s.client.held.nodes g ≡ true → is_dirty cache g ≡ is_mentioned (s.client.volumes g.volume) g
  dirty_at g there =
      ap (λ o. option_map_or (λ (hold : Hold). hold.dirty) o false) (held_at s g) ∙ by (map.get s.client.held.nodes g) there
    where
      by : (o : Option Node) → is_some o ≡ true → option_map_or (λ (hold : Hold). hold.dirty)
          (option_map (λ (n : Node). hold_of s g) o) false ≡ is_mentioned (s.client.volumes g.volume) g
      by None e = absurd (false≢true e)
      by (Some n) e = refl

  -- what is in the order of use is cached, and was used
  pub recent_is : (g : Fid) → is_listed cache.recency g ≡ true
      → (has s.client.held.nodes g ≡ true) × (is_listed s.beside.uses g ≡ true)
  recent_is g h = and_parts _ _ (sym (listed_where (λ x. has s.client.held.nodes x) s.beside.uses g) ∙ h)

  pub recent_from : (g : Fid) → has s.client.held.nodes g ≡ true → is_listed s.beside.uses g ≡ true
      → is_listed cache.recency g ≡ true
  recent_from g there used = listed_where (λ x. has s.client.held.nodes x) s.beside.uses g ∙ and_from _ _ there used

  -- what a record mentions is pinned
  pub dirty_pinned : (g : Fid) → is_listed cache.recency g ≡ true → IsDirty s.client g → is_pinned cache g ≡ true
  dirty_pinned g recent dirty =
      let there = (recent_is g recent).0 in
      any_listed (λ d. is_dirty cache d && is_below cache d g) cache.recency g recent
      (and_from _ _ (dirty_at g there ∙ dirty) (self_on_way cache g (held s g there)))

  -- an item is that of a cached node
  pub item_is : (i : Item) → Among i (items_of cache)
      → (is_listed cache.recency i.fid ≡ true) × (i.pinned ≡ is_pinned cache i.fid)
  item_is i h = let g = among_map (item_of cache) cache.recency i h in subst
      (λ (j : Item). (is_listed cache.recency j.fid ≡ true) × (j.pinned ≡ is_pinned cache j.fid)) g.2 (g.1, refl)
