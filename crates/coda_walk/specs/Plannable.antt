-- What objects a plan can be made for.
use Rattle.std.specs.Prelude.{◌≡◌, ℕ, ◌<◌, ◌≤◌, true, false, List, length, Some}
use Rattle.std.specs.Option.{option_map_or}
use Rattle.std.specs.List.{filter, IsDistinct}
use Rattle.coda_fid.specs.declared.fid.Fid.{Fid}
use Rattle.coda_fid.specs.Fid.{same_fid}
use Rattle.coda_walk.specs.declared.item.Item.{Item}
use Rattle.coda_walk.specs.Going.{blocks_of, is_listed}
use Rattle.coda_walk.specs.Laws.{Among}
use Rattle.coda_walk.specs.Planning.{fids_of, item_at}

-- The fids of the items differ; parents are among them and lead to an item without a parent; pinned items are cached, the
-- parent of a cached item is cached, and that of a pinned one pinned; the cached items, and no others, were used, in some
-- order; and the pinned ones fit.
pub record ArePlannable (size : ℕ) (items : List Item) (recency : List Fid) : Type 0 where
  pub distinct : IsDistinct same_fid (fids_of items)
  pub there : (i : Item) (p : Fid) → Among i items → i.parent ≡ Some p → (j : Item) × Among j items × (j.fid ≡ p)
  -- how many directories are above an object: less than there are items
  pub depth : Fid → ℕ
  pub deeper : (i : Item) (p : Fid) → Among i items → i.parent ≡ Some p → depth p < depth i.fid
  pub bounded : (i : Item) → Among i items → depth i.fid < length items
  pub pinned : (i : Item) → Among i items → i.pinned ≡ true → i.cached ≡ true
  pub cached_under : (i j : Item) → Among i items → Among j items → j.parent ≡ Some i.fid → j.cached ≡ true → i.cached ≡ true
  pub pinned_under : (i j : Item) → Among i items → Among j items → j.parent ≡ Some i.fid → j.pinned ≡ true → i.pinned ≡ true
  pub used : (f : Fid) → is_listed recency f ≡ option_map_or (λ (i : Item). i.cached) (item_at items f) false
  pub used_once : IsDistinct same_fid recency
  pub fit : blocks_of (filter (λ (i : Item). i.pinned) items) ≤ size
