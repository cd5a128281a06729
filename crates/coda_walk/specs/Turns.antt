-- Who goes before whom from a cache, in the field's words.
use Rattle.std.specs.Prelude.{◌≡◌, ◌⊎◌, ◌<◌, true, List, ◌∷◌, ◌++◌}
use Rattle.std.specs.declared.cmp.Ordering.TheVariants.{Greater}
use Rattle.coda_fid.specs.declared.fid.Fid.{Fid}
use Rattle.coda_fid.specs.Fid.{fid_cmp}
use Rattle.coda_walk.specs.declared.item.Item.{Item}
use Rattle.coda_walk.specs.Going.{may_go}
use Rattle.coda_walk.specs.Laws.{Among, left}

-- no fid has two items
abbrev pub AreOnce : List Item → Type 0
AreOnce items = (i j : Item) → Among i items → Among j items → i.fid ≡ j.fid → i ≡ j

-- i was used less recently than j: it stands before j in the order of use
pub record IsOlder (items : List Item) (i j : Item) : Type 0 where
  pub front : List Item
  pub back : List Item
  pub parts : items ≡ front ++ i ∷ back
  pub later : Among j back

-- One item goes before another.
pub data Precedes (items : List Item) (i j : Item) : Type 0 where
  -- what has no priority goes before what has one
  WithoutPriority : i.priority ≡ 0 → 0 < j.priority → Precedes items i j
  -- of those without a priority the least recently used goes first
  LessRecent : i.priority ≡ 0 → j.priority ≡ 0 → IsOlder items i j → Precedes items i j
  -- of those with one the least goes first
  LessPriority : 0 < i.priority → i.priority < j.priority → Precedes items i j
  -- and of the same priority the greater fid
  GreaterFid : 0 < i.priority → i.priority ≡ j.priority → fid_cmp i.fid j.fid ≡ Greater → Precedes items i j

-- the item may go, and goes before all others that may
pub record GoesFirst (kept : List Fid) (items : List Item) (i : Item) : Type 0 where
  pub there : Among i items
  pub free : may_go kept items i ≡ true
  pub first : (j : Item) → Among j items → may_go kept items j ≡ true → (j ≡ i) ⊎ Precedes items i j

-- each of those who go is the first that may go, of what is left when those before it went
abbrev pub GoInTurn : List Fid → List Item → List Fid → Type 0
GoInTurn kept items gone = (front back : List Fid) (f : Fid) → gone ≡ front ++ f ∷ back → (i : Item) × (i.fid ≡ f) × GoesFirst kept (left front items) i
