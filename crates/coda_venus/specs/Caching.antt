-- What the calls of a client serve of its cache, and what they make of it.
use Rattle.std.specs.Prelude.{◌≡◌, ℕ, ◌+◌, Bool, ◌||◌, is_some, if◌then◌else◌, List, [], ◌∷◌, ◌++◌, Option, Some, None}
use Rattle.std.specs.BTreeMap as tree
use Rattle.std.specs.FinMap as map
use Rattle.std.specs.Ordering.{nat_cmp}
use Rattle.coda_fid.specs.declared.fid.Fid.{Fid}
use Rattle.coda_fid.specs.declared.op.Op.{Op}
use Rattle.coda_fid.specs.declared.op.Record.{Record}
use Rattle.coda_fid.specs.Op.{fids_of}
use Rattle.coda_tree.specs.declared.node.Node.{Node}
use Rattle.coda_tree.specs.Volume.{Nodes}
use Rattle.coda_cache.specs.State.{CacheState, parent_of, source_of}
use Rattle.coda_cache.specs.Steps.{used, invalidated, marked, put_in, dropped, taken_out, mutated}
use Rattle.coda_walk.specs.Going.{is_listed}
use Rattle.coda_venus.specs.Accepting.{Sight, is_mentioned}
use Rattle.coda_venus.specs.Code.{held_of, sight, volume_in}
use Rattle.coda_venus.specs.Held.{Held}
use Rattle.coda_venus.specs.State.{ClientVolume}
use Rattle.coda_venus.specs.declared.client.Client.{Client}

-- ---- what is served

-- whether a record of the log of its volume mentions an object
abbrev pub log_mentions : Client → Fid → Bool
log_mentions code f = is_mentioned (volume_in (tree.get nat_cmp code.logs f.volume)) f

-- whether a cached node may be served: its volume is emulated, or the log mentions it, or its copy is valid
abbrev pub serves : Bool → Client → Fid → Bool
serves emulating code f = emulating || (log_mentions code f || is_some (source_of code.cache f))

-- the nodes that may be served
abbrev pub served_nodes : Bool → Client → Nodes
served_nodes emulating code = map.retain_keys code.cache.nodes (serves emulating code)

-- what the client holds, with what may be served in place of all nodes; the parents are those of all
abbrev pub served_held : Bool → Client → Held
served_held emulating code = record (held_of code) { nodes = served_nodes emulating code }

-- what the client sees of a volume, with what may be served in place of all that it holds
abbrev pub served_sight : Bool → Client → ℕ → Sight
served_sight emulating code volume = record (sight code volume) { held = served_held emulating code }

-- ---- what calls make of a cache

-- the cache after these were used in turn, where they are cached
abbrev pub used_in : CacheState → List Fid → CacheState
used_in c [] = c
used_in c (fid ∷ fids) = used_in (used c fid) fids

-- the cache in which no copy of these is valid
abbrev pub invalidated_in : CacheState → List Fid → CacheState
invalidated_in c [] = c
invalidated_in c (fid ∷ fids) = invalidated_in (invalidated c fid) fids

-- how many of these have a valid copy, each counted once
abbrev pub valid_in : CacheState → List Fid → ℕ
valid_in c [] = 0
valid_in c (fid ∷ fids) = (if is_some (source_of c fid) then 1 else 0) + valid_in (invalidated c fid) fids

-- the cache in which each of these, where it is cached, is dirty just where a test says so
abbrev pub marked_by : (Fid → Bool) → CacheState → List Fid → CacheState
marked_by test c [] = c
marked_by test c (f ∷ fids) = marked_by test (marked c f (test f)) fids

-- The cache once an object was fetched from a server: these went for it, it is used last, its copy is valid, and it is dirty where the
-- log mentions it.
abbrev pub installed_in : (Fid → Bool) → CacheState → List Fid → Fid → Option Fid → Node → ℕ → CacheState
installed_in test c gone fid parent node server = marked (put_in (dropped c gone) fid parent node (Some server)) fid (test fid)

-- the one that may be there
abbrev pub listed_in : Option Fid → List Fid
listed_in None = []
listed_in (Some f) = f ∷ []

-- the directory above what an operation takes out, by how it is cached
abbrev pub above_taken : CacheState → Option Fid → List Fid
above_taken c None = []
above_taken c (Some f) = listed_in (parent_of c f)

-- The objects of which the log may say something else behind an operation: those that it mentions, and the directory above what it takes
-- out. For where that was created, and is undone now, the log need not mention the directory any more; and it is cached where it was made.
abbrev pub touched_by : CacheState → Op → List Fid
touched_by c op = fids_of op ++ above_taken c (taken_out op)

-- The cache once an operation was performed: it changed the cached nodes, what it touched is dirty where the log mentions it then, and
-- these went for it.
abbrev pub performed_in : (Fid → Bool) → CacheState → List Fid → ℕ → Record → CacheState
performed_in test c gone client rec = dropped (marked_by test (mutated c client rec) (touched_by c rec.op)) gone

-- of the objects of a volume these are exactly those that its log mentions
abbrev pub AreMentioned : ClientVolume → ℕ → List Fid → Type 0
AreMentioned v volume fids = (f : Fid) → f.volume ≡ volume → is_listed fids f ≡ is_mentioned v f
