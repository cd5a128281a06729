-- What each call makes of a cache.
use Rattle.std.specs.Prelude.{ℕ, Bool, true, false, not, ◌&&◌, ◌==◌, if◌then◌else◌, List, [], ◌∷◌, Option, Some, None}
use Rattle.std.specs.Prelude as prelude
use Rattle.std.specs.Option.{option_map_or}
use Rattle.std.specs.FinMap as map
use Rattle.std.specs.FinMap.{FinMap}
use Rattle.coda_fid.specs.declared.fid.Fid.{Fid}
use Rattle.coda_fid.specs.declared.op.Record.{Record}
use Rattle.coda_fid.specs.declared.op.Over.{Over}
use Rattle.coda_fid.specs.declared.op.Op.{Op}
use Rattle.coda_fid.specs.declared.op.Op.TheVariants.{Create, Mkdir, Symlink, Remove, Rmdir, Rename}
use Rattle.coda_fid.specs.Fid.{fid_cmp}
use Rattle.coda_fid.specs.Op.{fids_of}
use Rattle.coda_tree.specs.declared.node.Node.{Node}
use Rattle.coda_tree.specs.Slots.{altered}
use Rattle.coda_certify.specs.Replay.{applied}
use Rattle.coda_cache.specs.declared.hold.Hold.{Hold}
use Rattle.coda_cache.specs.Uses.{latest, except}
use Rattle.coda_walk.specs.Going.{is_listed}
use Rattle.coda_cache.specs.State.{CacheState, Holds, Priorities, is_cached}
use Rattle.coda_cache.specs.Ways.{at_or_below}

-- ---- use and validity

-- the cache after a cached node was used
abbrev pub used : CacheState → Fid → CacheState
used c f = if is_cached c f then record c { recency = latest c.recency f } else c

-- a hold of a copy that is not valid
abbrev pub not_valid : Hold → Hold
not_valid hold = record hold { from = None }

-- a hold of a dirty node
abbrev pub made_dirty : Hold → Hold
made_dirty hold = record hold { dirty = true }

-- a hold of a dirty node, or of a clean one
abbrev pub set_dirty : Bool → Hold → Hold
set_dirty dirty hold = record hold { dirty = dirty }

-- a hold under another parent
abbrev pub under : Fid → Hold → Hold
under dir hold = record hold { parent = Some dir }

-- a hold of a new copy that is not dirty
abbrev pub renewed : Option ℕ → Hold → Hold
renewed from hold = record { parent = hold.parent; from = from; dirty = false }

-- each hold changed
abbrev pub each : (Fid → Hold → Hold) → Holds → Holds
each change holds = map.from_entries (prelude.map (λ e. (e.0, change e.0 e.1)) (map.entries holds))

-- the cache in which the copy of a node is not valid
abbrev pub invalidated : CacheState → Fid → CacheState
invalidated c f = record c { holds = altered c.holds f not_valid }

-- a hold, not valid where the copy is of the volume and from the server
abbrev pub valid_but_from : ℕ → ℕ → Fid → Hold → Hold
valid_but_from volume server f hold = if (f.volume == volume) && option_map_or (λ s. s == server) hold.from false then not_valid hold else hold

-- the cache in which no copy of a volume's node is valid that is from the server
abbrev pub invalidated_from : CacheState → ℕ → ℕ → CacheState
invalidated_from c volume server = record c { holds = each (valid_but_from volume server) c.holds }

-- a hold, dirty where its fid is among the fids
abbrev pub dirty_where : List Fid → Fid → Hold → Hold
dirty_where fids f hold = record hold { dirty = is_listed fids f }

-- the same for the nodes of a volume; those of others stay as they are
abbrev pub dirty_in : ℕ → List Fid → Fid → Hold → Hold
dirty_in volume fids f hold = if f.volume == volume then dirty_where fids f hold else hold

-- the cache in which exactly these nodes, where they are cached, are dirty
abbrev pub pinned_to : CacheState → List Fid → CacheState
pinned_to c fids = record c { holds = each (dirty_where fids) c.holds }

-- the cache in which exactly these nodes of a volume, where they are cached, are dirty: those that its log mentions
abbrev pub pinned_in : CacheState → ℕ → List Fid → CacheState
pinned_in c volume fids = record c { holds = each (dirty_in volume fids) c.holds }

-- the cache in which a node, where it is cached, is dirty or clean
abbrev pub marked : CacheState → Fid → Bool → CacheState
marked c f dirty = record c { holds = altered c.holds f (set_dirty dirty) }

-- ---- putting

-- the parent of a node that is put: its own one where it is cached
abbrev pub kept_parent : Option Hold → Option Fid → Option Fid
kept_parent None parent = parent
kept_parent (Some hold) parent = hold.parent

-- the cache with a node at f that is not dirty, and with its copy valid where it is from a server
abbrev pub put_in : CacheState → Fid → Option Fid → Node → Option ℕ → CacheState
put_in c f parent node from = record c {
  nodes = map.insert c.nodes f node;
  holds = map.insert c.holds f (record { parent = kept_parent (map.get c.holds f) parent; from = from; dirty = false });
  recency = latest c.recency f;
}

-- the cache with these nodes put in turn, each under its parent and from its server
abbrev pub put_all : CacheState → List (Fid × Option Fid × Node × ℕ) → CacheState
put_all c [] = c
put_all c (p ∷ puts) = put_all (put_in c p.0 p.1 p.2 (Some p.3)) puts

-- the priorities with those that a walk gave, without those that are none; of two for one node the later counts
abbrev pub given_to : Priorities → List (Fid × ℕ) → Priorities
given_to priorities [] = priorities
given_to priorities (e ∷ of) = given_to (if e.1 == 0 then priorities else map.insert priorities e.0 e.1) of

-- the cache after a walk
abbrev pub walked : CacheState → List (Fid × Option Fid × Node × ℕ) → List (Fid × ℕ) → CacheState
walked c puts of = record (put_all c puts) { priorities = given_to map.empty of }

-- ---- taking out

-- the map without these fids
abbrev pub taken_from : {X : Type 0} → FinMap fid_cmp X → List Fid → FinMap fid_cmp X
taken_from m [] = m
taken_from m (f ∷ fids) = taken_from (map.remove m f) fids

-- the fids but these
abbrev pub except_all : List Fid → List Fid → List Fid
except_all recency [] = recency
except_all recency (f ∷ fids) = except_all (except recency f) fids

-- the cache without a node
abbrev pub without : CacheState → Fid → CacheState
without c f = record c { nodes = map.remove c.nodes f; holds = map.remove c.holds f; recency = except c.recency f }

-- the cache without these nodes
abbrev pub dropped : CacheState → List Fid → CacheState
dropped c fids = record c { nodes = taken_from c.nodes fids; holds = taken_from c.holds fids; recency = except_all c.recency fids }

-- the cache without a node and what is cached below it
abbrev pub removed : CacheState → Fid → CacheState
removed c f = dropped c (at_or_below c f)

-- ---- operations

-- the directory and the fid of the node that an operation makes
abbrev pub new_node : Op → Option (Fid × Fid)
new_node (Create dir name fid mode owner) = Some (dir, fid)
new_node (Mkdir dir name fid mode owner) = Some (dir, fid)
new_node (Symlink dir name fid target mode owner) = Some (dir, fid)
new_node _ = None

-- the node that an operation takes out
abbrev pub taken_out : Op → Option Fid
taken_out (Remove dir name fid pre) = Some fid
taken_out (Rmdir dir name fid pre) = Some fid
taken_out (Rename from_dir from to_dir to fid over) = prelude.option_map (λ (o : Over). o.fid) over
taken_out _ = None

-- the node that an operation moves, and the directory that then binds it
abbrev pub moved_node : Op → Option (Fid × Fid)
moved_node (Rename from_dir from to_dir to fid over) = Some (fid, to_dir)
moved_node _ = None

-- what goes from a cache by an operation: the node that is taken out, with all that is cached below it
abbrev pub taken_below : CacheState → Option Fid → List Fid
taken_below c None = []
taken_below c (Some f) = at_or_below c f

-- the hold of a node that an operation made in a directory
abbrev pub new_hold : Fid → Hold
new_hold dir = record { parent = Some dir; from = None; dirty = true }

-- the cache in which a new node is held by its directory, and used last
abbrev pub held_new : Option (Fid × Fid) → CacheState → CacheState
held_new None c = c
held_new (Some p) c = record c { holds = map.insert c.holds p.1 (new_hold p.0); recency = latest c.recency p.1 }

-- the holds in which a moved node has its new parent
abbrev pub moved_in : Option (Fid × Fid) → Holds → Holds
moved_in None holds = holds
moved_in (Some p) holds = altered holds p.0 (under p.1)

-- the cache in which a moved node has its new parent
abbrev pub moved_under : Option (Fid × Fid) → CacheState → CacheState
moved_under moved c = record c { holds = moved_in moved c.holds }

-- the holds in which these nodes are dirty too
abbrev pub all_dirty : Holds → List Fid → Holds
all_dirty holds [] = holds
all_dirty holds (f ∷ fids) = all_dirty (altered holds f made_dirty) fids

-- the cache in which these nodes are dirty too, where they are cached
abbrev pub dirtied : CacheState → List Fid → CacheState
dirtied c fids = record c { holds = all_dirty c.holds fids }

-- The cache after a client's operation: the nodes change as it says, what it takes out goes with all that was cached below,
-- a new node is held by its directory, a moved one by its new one, and what is mentioned is dirty.
unfoldable pub mutated : CacheState → ℕ → Record → CacheState
mutated c client rec = dirtied (moved_under (moved_node rec.op) (held_new (new_node rec.op) (dropped (record c { nodes = applied c.nodes client rec }) (taken_below c (taken_out rec.op))))) (fids_of rec.op)
