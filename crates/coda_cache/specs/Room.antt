-- Who goes from a cache for a node or for an operation, and when that cannot make room.
use Rattle.std.specs.Prelude.{ℕ, ◌+◌, ◌-◌, Bool, true, false, not, ◌&&◌, ◌||◌, nat_lt, cond, is_some, if◌then◌else◌, List, [], ◌∷◌, ◌++◌, Option, Some, None, Result, Ok, Err}
use Rattle.std.specs.Prelude as prelude
use Rattle.std.specs.List.{filter}
use Rattle.coda_fid.specs.declared.fid.Fid.{Fid}
use Rattle.coda_fid.specs.Fid.{same_fid}
use Rattle.coda_fid.specs.declared.op.Record.{Record}
use Rattle.coda_walk.specs.declared.item.Item.{Item}
use Rattle.coda_walk.specs.Going.{who_goes}
use Rattle.coda_walk.specs.Going as going
use Rattle.coda_cache.specs.declared.fault.CacheFault.{CacheFault}
use Rattle.coda_cache.specs.declared.fault.CacheFault.TheVariants.{CacheFull}
use Rattle.coda_walk.specs.Going.{is_listed}
use Rattle.coda_cache.specs.State.{CacheState, is_cached, parent_of, source_of, is_dirty, priority_of, blocks_at}
use Rattle.coda_cache.specs.Ways.{way_up, is_pinned}
use Rattle.coda_cache.specs.Steps.{pinned_in, mutated}

-- what a plan has to know of a cached node
abbrev pub item_of : CacheState → Fid → Item
item_of c f = record { fid = f; parent = parent_of c f; priority = priority_of c f; blocks = blocks_at c f; cached = true; served = is_some (source_of c f) || is_dirty c f; pinned = is_pinned c f }

-- the cached nodes in the order of their use
abbrev pub items_of : CacheState → List Item
items_of c = prelude.map (item_of c) c.recency

-- the blocks of the nodes that pass
abbrev pub blocks_where : (Item → Bool) → List Item → ℕ
blocks_where test items = going.blocks_of (filter test items)

-- the blocks of pinned nodes
abbrev pub pinned_blocks : List Item → ℕ
pinned_blocks items = blocks_where (λ i. i.pinned) items

-- a node and what is above it, where it is cached
abbrev pub way_of : CacheState → Fid → List Fid
way_of c f = if is_cached c f then way_up c f else []

-- the nodes and what is above them, where they are cached
abbrev pub with_ancestors : CacheState → List Fid → List Fid
with_ancestors c [] = []
with_ancestors c (f ∷ fids) = way_of c f ++ with_ancestors c fids

-- Room in a cache of this size: who goes so that the rest fits, unless what is pinned and what is kept don't.
abbrev pub room_in : ℕ → ℕ → ℕ → List Fid → List Item → Result (List Fid) CacheFault
room_in size pinned needed kept items = if nat_lt size (pinned + needed) then Err (CacheFull pinned needed size) else Ok (who_goes size kept items)

-- ---- for a node that is put

-- the item of a node that is put: of so many blocks now
abbrev pub item_put : ℕ → Item → Item
item_put blocks i = record i { blocks = blocks }

-- a node that was not cached is used last, under the given parent
abbrev pub new_item : CacheState → Fid → Option Fid → ℕ → Item
new_item c f parent blocks = record { fid = f; parent = parent; priority = priority_of c f; blocks = blocks; cached = false; served = false; pinned = false }

-- an item, of so many blocks now where it is that of f
abbrev pub item_after : Fid → ℕ → Item → Item
item_after f blocks i = cond (same_fid i.fid f) (item_put blocks i) i

-- the items of the cache once a node of so many blocks is put
abbrev pub items_with : CacheState → Fid → Option Fid → ℕ → List Item
items_with c f parent blocks = if is_cached c f then prelude.map (item_after f blocks) (items_of c) else items_of c ++ new_item c f parent blocks ∷ []

-- the way up from a directory, where there is one
abbrev pub way_from : CacheState → Option Fid → List Fid
way_from c None = []
way_from c (Some p) = way_up c p

-- the directory under which a node is, or would be, cached
abbrev pub parent_then : CacheState → Fid → Option Fid → Option Fid
parent_then c f parent = if is_cached c f then parent_of c f else parent

-- what stays for a node that is put: itself, the cached ones of those that are kept, and what is above all these
abbrev pub kept_for : CacheState → Fid → Option Fid → List Fid → List Fid
kept_for c f parent keep = f ∷ way_from c (parent_then c f parent) ++ with_ancestors c keep

-- the blocks that a node of so many needs besides those that are pinned: of a pinned one those by which it grew
abbrev pub more_blocks : CacheState → Fid → ℕ → ℕ
more_blocks c f blocks = if is_pinned c f then blocks - blocks_at c f else blocks

-- whether an item is needed besides f: it is kept, and not pinned
abbrev pub is_needed : Fid → List Fid → Item → Bool
is_needed f kept i = not (same_fid i.fid f) && (not i.pinned && is_listed kept i.fid)

-- the further blocks for a node that is put
abbrev pub needed_for : CacheState → Fid → Option Fid → ℕ → List Fid → ℕ
needed_for c f parent blocks keep = more_blocks c f blocks + blocks_where (is_needed f (kept_for c f parent keep)) (items_of c)

-- Who goes for a node of so many blocks that is put, or why it can't be.
unfoldable pub evicted_for : CacheState → Fid → Option Fid → ℕ → List Fid → Result (List Fid) CacheFault
evicted_for c f parent blocks keep = room_in c.size (pinned_blocks (items_of c)) (needed_for c f parent blocks keep) (kept_for c f parent keep) (items_with c f parent blocks)

-- ---- for an operation

-- the cache after an operation on a volume, whose log then mentions these
abbrev pub operated : CacheState → ℕ → ℕ → Record → List Fid → CacheState
operated c client volume rec mentioned = pinned_in (mutated c client rec) volume mentioned

-- whether an item is needed besides those that are pinned: it is kept
abbrev pub is_further : List Fid → Item → Bool
is_further kept i = not i.pinned && is_listed kept i.fid

-- the blocks of nodes that are kept, besides those that are pinned
abbrev pub further_blocks : List Fid → List Item → ℕ
further_blocks kept items = blocks_where (is_further kept) items

-- Who goes from the cache that an operation makes of another one in which it looked up nodes, or why it can't be made: what
-- stays is pinned after it, or was looked up or is above that before it.
abbrev pub evicted_between : CacheState → CacheState → List Fid → Result (List Fid) CacheFault
evicted_between before after looked_up =
    room_in before.size (pinned_blocks (items_of after)) (further_blocks (with_ancestors before looked_up) (items_of after)) (with_ancestors before looked_up) (items_of after)

-- Who goes for a client's operation on a volume that looked up nodes, where the volume's log mentions these once it is made; or
-- why it can't be made.
unfoldable pub evicted_after : CacheState → ℕ → ℕ → Record → List Fid → List Fid → Result (List Fid) CacheFault
evicted_after c client volume rec mentioned looked_up = evicted_between c (operated c client volume rec mentioned) looked_up
