-- What a cache is, and that with it room is made rightly.
use Rattle.std.specs.Prelude.{◌≡◌, ℕ, ◌+◌, ◌<◌, ◌≤◌, true, false, ◌||◌, Option, Some, List, [], ◌∷◌, Result, Ok, Err}
use Rattle.std.specs.List.{IsDistinct}
use Rattle.std.specs.FinMap as map
use Rattle.coda_fid.specs.declared.fid.Fid.{Fid}
use Rattle.coda_fid.specs.declared.op.Op.{Op}
use Rattle.coda_fid.specs.Fid.{same_fid}
use Rattle.coda_tree.specs.declared.node.Node.{Node}
use Rattle.coda_certify.specs.Replay.{MayApply}
use Rattle.coda_walk.specs.Going.{is_listed}
use Rattle.coda_cache.specs.State.{CacheState, is_cached, parent_of}
use Rattle.coda_cache.specs.Ways.{is_below, is_pinned}
use Rattle.coda_cache.specs.Steps.{put_in, taken_out, moved_node}
use Rattle.coda_cache.specs.declared.fault.CacheFault.{CacheFault}
use Rattle.coda_cache.specs.declared.fault.CacheFault.TheVariants.{CacheFull}
use Rattle.coda_cache.specs.Room.{with_ancestors}

-- Each node has a hold, and its fid stands once in the order of use, and nothing else has; the parent of each is cached,
-- and stands less deep.
pub record IsCache (c : CacheState) : Type 0 where
  pub held : (f : Fid) → map.contains_key c.holds f ≡ is_cached c f
  pub used : (f : Fid) → is_listed c.recency f ≡ is_cached c f
  pub once : IsDistinct same_fid c.recency
  -- how many directories are above a node
  pub depth : Fid → ℕ
  pub parents : (f p : Fid) → parent_of c f ≡ Some p → is_cached c p ≡ true
  pub deeper : (f p : Fid) → parent_of c f ≡ Some p → depth p < depth f

-- a node may be put under a parent, where it isn't cached yet: the parent is cached
abbrev pub MayHold : CacheState → Fid → Option Fid → Type 0
MayHold c f parent = (p : Fid) → is_cached c f ≡ false → parent ≡ Some p → is_cached c p ≡ true

-- nodes may go: none of them is the parent of one that stays
abbrev pub MayGo : CacheState → List Fid → Type 0
MayGo c fids = (f p : Fid) → is_listed fids f ≡ false → parent_of c f ≡ Some p → is_listed fids p ≡ false

-- A client may do an operation: it may be applied to the cached nodes; and the directory into which a node is moved is not
-- at or below that node, nor at or below one that the operation takes out.
pub record MayMutate (c : CacheState) (op : Op) : Type 0 where
  pub may : MayApply c.nodes op
  pub apart : (f dir : Fid) → moved_node op ≡ Some (f, dir) → is_below c dir f ≡ false
  pub stays : (f dir gone : Fid) → moved_node op ≡ Some (f, dir) → taken_out op ≡ Some gone → is_below c dir gone ≡ false

-- nodes may be put in turn
abbrev pub MayHoldAll : CacheState → List (Fid × Option Fid × Node × ℕ) → Type 0
MayHoldAll c [] = Unit {0}
MayHoldAll c (p ∷ puts) = MayHold c p.0 p.1 × MayHoldAll (put_in c p.0 p.1 p.2 (Some p.3)) puts

-- An operation that makes one cache of another keeps the directory into which it moves a node: it is pinned then, or was looked
-- up or is above that before.
abbrev pub KeepsPlace : CacheState → CacheState → Op → List Fid → Type 0
KeepsPlace before after op looked_up = (f dir : Fid) → moved_node op ≡ Some (f, dir) → (is_pinned after dir || is_listed (with_ancestors before looked_up) dir) ≡ true

-- Room can't be made exactly where what is pinned and what is needed besides exceed the size.
pub record IsFullRightly (size pinned needed : ℕ) (room : Result (List Fid) CacheFault) : Type 0 where
  pub full : size < pinned + needed → room ≡ Err (CacheFull pinned needed size)
  pub fits : pinned + needed ≤ size → (gone : List Fid) × (room ≡ Ok gone)
