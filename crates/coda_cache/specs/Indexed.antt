-- What is kept beside the contents of a cache, so that no call has to look at all of them.
use Rattle.std.specs.Prelude.{◌≡◌, ◌==◌, ℕ, zero, suc, ◌+◌, Bool, true, false, cond, List, [], ◌∷◌, Option, Some, None}
use Rattle.std.specs.Prelude as prelude
use Rattle.std.specs.Option.{IfSome, option_map_or}
use Rattle.std.specs.BTreeSet as btree
use Rattle.std.specs.BTreeSet.{BTreeSet}
use Rattle.std.specs.BTreeMap as tree
use Rattle.std.specs.BTreeMap.{BTreeMap}
use Rattle.std.specs.HashMap as hash
use Rattle.std.specs.HashMap.{HashMap}
use Rattle.std.specs.HashSet as hash_set
use Rattle.std.specs.HashSet.{HashSet}
use Rattle.std.specs.Ordering.{nat_cmp, eq_by_cmp, ordering_then}
use Rattle.std.specs.declared.cmp.Ordering.{Ordering}
use Rattle.coda_fid.specs.declared.fid.Fid.{Fid}
use Rattle.coda_fid.specs.Fid.{fid_cmp, same_fid}
use Rattle.coda_walk.specs.declared.item.Item.{Item}
use Rattle.coda_walk.specs.Going.{is_listed}
use Rattle.coda_walk.specs.Queue.{IsQueueOf, with_item, Rises}
use Rattle.coda_cache.specs.declared.queued.Queued.{Queued}
use Rattle.coda_cache.specs.declared.marks.Marks.{Marks}
use Rattle.coda_cache.specs.declared.sources.Sources.{Sources}
use Rattle.coda_cache.specs.declared.children.Children.{Children}
use Rattle.coda_cache.specs.declared.by_use.Use.{Use}
use Rattle.coda_cache.specs.declared.cache.Cache.TheInside.{Inside}
use Rattle.coda_tree.specs.Slots.{altered}
use Rattle.coda_cache.specs.declared.hold.Hold.{Hold}
use Rattle.coda_cache.specs.Steps.{each, dirty_where, set_dirty, valid_but_from}
use Rattle.coda_cache.specs.State.{CacheState, Holds, parent_of, priority_of, blocks_at, is_dirty, source_of}

-- ---- the queue

-- a cached node as it stands in the queue, which doesn't know who is pinned
abbrev pub standing_of : CacheState → Fid → Item
standing_of c f = record { fid = f; parent = parent_of c f; priority = priority_of c f; blocks = blocks_at c f; cached = true; served = false; pinned = false }

-- the cached nodes so, in the order of their use
abbrev pub standings : CacheState → List Item
standings c = prelude.map (standing_of c) c.recency

-- the queue has these items, where it is kept
abbrev pub IsQueued : Queued → List Item → Type 0
IsQueued q items = IfSome q.queue (λ queue. IsQueueOf queue items)

-- the items stand in the order of some times of use
abbrev pub AreInOrder : List Item → Type 0
AreInOrder items = (used : Fid → ℕ) × Rises used items

-- the items, with those of some objects anew
abbrev pub renewed_items : (Fid → Item) → List Fid → List Item → List Item
renewed_items item [] items = items
renewed_items item (f ∷ fids) items = renewed_items item fids (with_item (item f) items)

-- ---- times of use

-- by the time of use, and then by fid
abbrev pub use_cmp : Use → Use → Ordering
use_cmp a b = ordering_then (nat_cmp a.used b.used) (fid_cmp a.fid b.fid)

-- an object with its time
abbrev pub use_of : (Fid → ℕ) → Fid → Use
use_of time f = record { used = time f; fid = f }

-- ---- marks

-- those that are marked are those that pass, where marks are kept
abbrev pub AreMarked : Marks → (Fid → Bool) → Type 0
AreMarked m passes = IfSome m.fids (λ fids. (f : Fid) → btree.contains fid_cmp fids f ≡ passes f)

-- ---- where valid copies are from

-- whether two servers are one
abbrev pub same_server : ℕ → ℕ → Bool
same_server a b = eq_by_cmp nat_cmp a b

-- whether a copy is valid, and from a server
abbrev pub is_from : ℕ → Option ℕ → Bool
is_from server source = option_map_or (λ s. same_server server s) source false

-- whether a fid is kept for a server
abbrev pub is_kept_for : BTreeMap ℕ (BTreeSet Fid) → ℕ → Fid → Bool
is_kept_for servers server f = option_map_or (λ fids. btree.contains fid_cmp fids f) (tree.get nat_cmp servers server) false

-- the fid of each valid copy is kept for the server that it is from, where they are kept
abbrev pub AreCovered : Sources → (Fid → Option ℕ) → Type 0
AreCovered s source = IfSome s.servers (λ servers. (f : Fid) (server : ℕ) → source f ≡ Some server → is_kept_for servers server f ≡ true)

-- the holds in which no copy of these nodes is valid that is of a volume and from a server
abbrev pub left_by : ℕ → ℕ → Holds → List Fid → Holds
left_by volume server holds [] = holds
left_by volume server holds (f ∷ fids) = left_by volume server (altered holds f (valid_but_from volume server f)) fids

-- ---- which nodes are cached under a directory

-- whether a parent, where there is one, is this directory
abbrev pub is_parent : Fid → Option Fid → Bool
is_parent dir parent = option_map_or (λ p. same_fid dir p) parent false

-- whether a fid is kept under a directory
abbrev pub is_kept_under : {S T : Type 0} → HashMap Fid (HashSet Fid T) S → Fid → Fid → Bool
is_kept_under parents dir f = option_map_or (λ fids. hash_set.contains same_fid fids f) (hash.get same_fid parents dir) false

-- each fid that has a parent is kept under it, where they are kept
abbrev pub AreUnder : Children → (Fid → Option Fid) → Type 0
AreUnder s parent = IfSome s.parents (λ parents. (f p : Fid) → parent f ≡ Some p → is_kept_under parents p f ≡ true)

-- whether a node is cached under one of these
abbrev pub is_under_any : CacheState → List Fid → Fid → Bool
is_under_any c dirs f = option_map_or (λ p. is_listed dirs p) (parent_of c f) false

-- whether a fid is so many steps down from a node
abbrev pub is_down : CacheState → ℕ → Fid → Fid → Bool
is_down c zero of f = same_fid f of
is_down c (suc steps) of f = option_map_or (λ p. is_down c steps of p) (parent_of c f) false

-- ---- which nodes are dirty

-- whether a fid is of a volume, where one is given
abbrev pub is_of : Option ℕ → Fid → Bool
is_of None f = true
is_of (Some volume) f = f.volume == volume

-- a hold, dirty where its fid is among the fids; one that isn't of the volume stays as it is
abbrev pub dirty_of : Option ℕ → List Fid → Fid → Hold → Hold
dirty_of volume fids f hold = cond (is_of volume f) (dirty_where fids f hold) hold

-- the cache in which exactly these nodes are dirty, where they are cached and of the volume
abbrev pub pinned_of : CacheState → Option ℕ → List Fid → CacheState
pinned_of c volume fids = record c { holds = each (dirty_of volume fids) c.holds }

-- the holds in which those of these nodes that are of the volume are dirty, or clean
abbrev pub set_all : Option ℕ → Bool → Holds → List Fid → Holds
set_all volume dirty holds [] = holds
set_all volume dirty holds (f ∷ fids) = set_all volume dirty (cond (is_of volume f) (altered holds f (set_dirty dirty)) holds) fids

-- ---- blocks

-- the blocks of a node, unless it passes
abbrev pub blocks_unless : CacheState → (Fid → Bool) → Fid → ℕ
blocks_unless c test f = cond (test f) 0 (blocks_at c f)

-- the blocks of nodes that don't pass
abbrev pub blocks_beside : CacheState → (Fid → Bool) → List Fid → ℕ
blocks_beside c test [] = 0
blocks_beside c test (f ∷ fids) = blocks_unless c test f + blocks_beside c test fids

-- ---- the cache

-- the queue has the cached nodes, and the dirty ones are marked
pub record AreIndexed (queued : Queued) (dirty : Marks) (c : CacheState) : Type 0 where
  pub queue : IsQueued queued (standings c)
  pub marks : AreMarked dirty (is_dirty c)

-- and the valid copies are kept by their servers, and the nodes by their parents
pub record AreFound (queued : Queued) (dirty : Marks) (sources : Sources) (children : Children) (c : CacheState) : Type 0 where
  pub indexed : AreIndexed queued dirty c
  pub covered : AreCovered sources (source_of c)
  pub under : AreUnder children (parent_of c)

-- so it is with the parts of a cache
abbrev pub IsIndexed : Inside → Type 0
IsIndexed a = AreFound a.queued a.dirty a.sources a.children a.contents
