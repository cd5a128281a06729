-- How a plan is made: what its private steps do.
use Rattle.std.specs.Prelude.{◌≡◌, ℕ, zero, suc, ◌+◌, Bool, true, not, ◌&&◌, ◌||◌, cond, List, [], ◌∷◌, Option, Some, None}
use Rattle.std.specs.Option.{option_map_or}
use Rattle.std.specs.BTreeMap as tree
use Rattle.std.specs.BTreeMap.{BTreeMap}
use Rattle.std.specs.BTreeSet as tree_set
use Rattle.coda_fid.specs.declared.fid.Fid.{Fid}
use Rattle.coda_fid.specs.Fid.{fid_cmp}
use Rattle.coda_walk.specs.declared.item.Item.{Item}
use Rattle.coda_walk.specs.declared.taking.Chosen.{Chosen}
use Rattle.coda_walk.specs.Going.{is_listed}
use Rattle.coda_walk.specs.Planning.{item_at, parent_at, blocks_kept, Taken}

-- the map has the item of each object
abbrev pub IsIndex : BTreeMap Fid Item → List Item → Type 0
IsIndex m items = (f : Fid) → tree.get fid_cmp m f ≡ item_at items f

-- one of two items: the first that is there
abbrev pub first_of : Option Item → Option Item → Option Item
first_of None other = other
first_of (Some i) other = Some i

-- a fid, unless it passes the test
abbrev pub unless : (Fid → Bool) → Option Fid → Option Fid
unless test None = None
unless test (Some f) = cond (test f) None (Some f)

-- a fid and what is above it up to the first that passes the test, within so many steps
abbrev pub new_on : List Item → (Fid → Bool) → ℕ → Option Fid → List Fid
new_on items test zero at = []
new_on items test (suc steps) None = []
new_on items test (suc steps) (Some f) = f ∷ new_on items test steps (unless test (parent_at items f))

-- the blocks that an object takes
abbrev pub blocks_at : List Item → Fid → ℕ
blocks_at items f = option_map_or (λ (i : Item). i.blocks) (item_at items f) 0

-- the blocks of objects, one after the other
abbrev pub blocks_on : List Item → List Fid → ℕ
blocks_on items [] = 0
blocks_on items (f ∷ fids) = blocks_at items f + blocks_on items fids

-- the sets have those that are kept and taken, and the room is what is left beside those that are kept
pub record AreChosen (size : ℕ) (items : List Item) (t : Taken) (chosen : Chosen) : Type 0 where
  pub kept : (f : Fid) → tree_set.contains fid_cmp chosen.kept f ≡ is_listed t.kept f
  pub taken : (f : Fid) → tree_set.contains fid_cmp chosen.taken f ≡ is_listed t.taken f
  pub room : chosen.room + blocks_kept items t.kept ≡ size
  pub closed : (f p : Fid) → is_listed t.kept f ≡ true → parent_at items f ≡ Some p → is_listed t.kept p ≡ true

-- whether an item is kept and not cached, by what is known of the fids
abbrev pub is_new : (Fid → Bool) → Item → Bool
is_new kept i = not i.cached && kept i.fid

-- whether an item is fetched
abbrev pub fetched_by : (Fid → Bool) → (Fid → Bool) → Item → Bool
fetched_by taken kept i = (taken i.fid && not (i.served || i.pinned)) || (kept i.fid && not i.cached)

-- whether an item stays as it is
abbrev pub stays_by : (Fid → Bool) → (Fid → Bool) → (Fid → Bool) → Item → Bool
stays_by taken kept gone i = i.cached && (not (fetched_by taken kept i) && not (gone i.fid))
