-- Acceptance over some of the nodes that a client has cached.
use Rattle.std.specs.Prelude.{◌≡◌, ◌⊎◌, ℕ, true, List, Some, None, Ok, Err}
use Rattle.std.specs.FinMap as map
use Rattle.coda_fid.specs.Fid.{root_of}
use Rattle.coda_fid.specs.declared.fid.Fid.{Fid}
use Rattle.coda_fid.specs.declared.op.Op.{Op}
use Rattle.coda_tree.specs.declared.node.Node.{Node}
use Rattle.coda_tree.specs.Bindings.{Name}
use Rattle.coda_tree.specs.Volume.{Nodes, child, has}
use Rattle.coda_walk.specs.Going.{is_listed}
use Rattle.coda_venus.specs.Ask.{Asked}
use Rattle.coda_venus.specs.Held.{is_below, some_below}
use Rattle.coda_venus.specs.Accepting.{Sight, next_fid, accept}
use Rattle.coda_venus.specs.declared.refused.Refused.TheVariants.{Need}
use Rattle.coda_venus.specs.Serving.{looked_up_for}

-- One sight of a volume is part of another: it has some of the nodes, and all else that acceptance looks at; and no
-- node has the next fid.
pub record IsPartOfSight (volume : ℕ) (s t : Sight) : Type 0 where
  pub number : s.number ≡ t.number
  pub creations : s.creations ≡ t.creations
  pub parents : s.held.parents ≡ t.held.parents
  pub nodes : (fid : Fid) (node : Node) → map.get s.held.nodes fid ≡ Some node → map.get t.held.nodes fid ≡ Some node
  pub dirty_below : (fid : Fid) → some_below s.held s.is_dirty fid ≡ some_below t.held t.is_dirty fid
  pub fresh : map.get t.held.nodes (next_fid t volume) ≡ None

-- What is accepted over a part is accepted over the whole, as the same operation.
abbrev pub PartsAcceptAsTheWhole : Type 0
PartsAcceptAsTheWhole = (s t : Sight) (volume : ℕ) (ask : Asked) (op : Op) → IsPartOfSight volume s t
    → accept s volume ask ≡ Ok op → accept t volume ask ≡ Ok op

-- An object that acceptance needs isn't among the nodes.
abbrev pub NeededObjectsAreMissing : Type 0
NeededObjectsAreMissing = (s : Sight) (volume : ℕ) (ask : Asked) (fid : Fid) → accept s volume ask ≡ Err (Need fid)
    → map.get s.held.nodes fid ≡ None

-- One sight of a volume has what another one looks up: those nodes, what is above them, whether a record mentions what
-- is below them, and all else that acceptance looks at; and no node has the next fid.
pub record HasLookedUp (volume : ℕ) (looked : List Fid) (s t : Sight) : Type 0 where
  pub number : s.number ≡ t.number
  pub creations : s.creations ≡ t.creations
  pub nodes : (fid : Fid) (node : Node) → is_listed looked fid ≡ true → map.get s.held.nodes fid ≡ Some node
      → map.get t.held.nodes fid ≡ Some node
  pub above : (fid dir : Fid) → is_listed looked fid ≡ true → has s.held.nodes fid ≡ true
      → is_below s.held.parents fid dir ≡ is_below t.held.parents fid dir
  pub dirty_below : (fid : Fid) → is_listed looked fid ≡ true → has s.held.nodes fid ≡ true
      → some_below s.held s.is_dirty fid ≡ some_below t.held t.is_dirty fid
  pub fresh : map.get t.held.nodes (next_fid t volume) ≡ None

-- What is accepted over some nodes is accepted, as the same operation, over any that have what was looked up for it.
abbrev pub WhatWasLookedUpSuffices : Type 0
WhatWasLookedUpSuffices = (s t : Sight) (volume : ℕ) (ask : Asked) (op : Op)
    → HasLookedUp volume (looked_up_for s.held.nodes volume ask) s t
    → accept s volume ask ≡ Ok op → accept t volume ask ≡ Ok op

-- a volume's root, or an object that a directory among the nodes binds
abbrev pub IsLedTo : Nodes → Fid → Type 0
IsLedTo m fid = (fid ≡ root_of fid.volume) ⊎ ((dir : Fid) × (name : Name) × (child m dir name ≡ Some fid))

-- An object that acceptance needs is a volume's root, or a directory among the nodes binds it.
abbrev pub NeededObjectsAreLedTo : Type 0
NeededObjectsAreLedTo = (s : Sight) (volume : ℕ) (ask : Asked) (fid : Fid) → accept s volume ask ≡ Err (Need fid)
    → IsLedTo s.held.nodes fid
