-- What a client serves of what it has cached, and what it keeps beside its history.
use Rattle.std.specs.Prelude.{ℕ, Bool, true, false, ◌||◌, ◌==◌, is_some, if◌then◌else◌, List, [], ◌∷◌}
use Rattle.std.specs.Prelude.{◌++◌, Option, Some, None, Result, Ok, Err}
use Rattle.std.specs.Prelude as prelude
use Rattle.std.specs.List.{filter}
use Rattle.std.specs.FinMap as map
use Rattle.coda_fid.specs.Fid.{root_of}
use Rattle.coda_fid.specs.declared.fid.Fid.{Fid}
use Rattle.coda_fid.specs.declared.op.Record.{Record}
use Rattle.coda_tree.specs.declared.node.Node.{Node}
use Rattle.coda_tree.specs.Bindings.{Name}
use Rattle.coda_tree.specs.Volume.{Nodes, has}
use Rattle.coda_cache.specs.declared.hold.Hold.{Hold}
use Rattle.coda_cache.specs.declared.fault.CacheFault.{CacheFault}
use Rattle.coda_cache.specs.State.{CacheState}
use Rattle.coda_cache.specs.Steps.{new_node}
use Rattle.coda_cache.specs.Uses.{latest}
use Rattle.coda_cache.specs.Room.{evicted_between}
use Rattle.coda_record.specs.declared.entry.ClientEntry.TheVariants as entry
use Rattle.coda_venus.specs.Accepting.{is_mentioned}
use Rattle.coda_venus.specs.Ask.{Asked, Create, Mkdir, Symlink, Store, Setattr, Remove, Rmdir, Rename, ending, front_of}
use Rattle.coda_venus.specs.Looking.{step_from, resolve}
use Rattle.coda_venus.specs.State.{ClientState, client_after}
use Rattle.coda_venus.specs.declared.refused.Refused.{Refused}

-- ---- what is served

-- What a client keeps beside its history, until it crashes: its valid copies, and the objects that it looked up, made
-- or fetched, in the order of their last use.
pub record Beside : Type 0 where
  pub copies : Fid → Option ℕ
  pub uses : List Fid

-- a client that serves: what its history makes of it, and what is beside that
pub record ServingClient : Type 0 where
  pub client : ClientState
  pub beside : Beside

-- whether a cached node may be served: its volume is emulated, or the log mentions it, or its copy is valid
abbrev pub may_serve : Bool → ServingClient → Fid → Bool
may_serve emulating s fid =
    emulating || (is_mentioned (s.client.volumes fid.volume) fid || is_some (s.beside.copies fid))

-- the nodes that a client may serve
abbrev pub served : Bool → ServingClient → Nodes
served emulating s = map.retain_keys s.client.held.nodes (may_serve emulating s)

-- the client with what it may serve in place of all that is cached: all that a call asks of a client it asks of this
-- one
abbrev pub serving : Bool → ServingClient → ClientState
serving emulating s = record s.client { held = record s.client.held { nodes = served emulating s } }

-- ---- the order of use

-- objects were used in this order
abbrev pub used_all : List Fid → List Fid → List Fid
used_all uses [] = uses
used_all uses (fid ∷ fids) = used_all (latest uses fid) fids

-- an object that an operation makes is the last that was used
abbrev pub used_new : List Fid → Option (Fid × Fid) → List Fid
used_new uses None = uses
used_new uses (Some made) = latest uses made.1

-- a client whose uses are these more
abbrev pub using : ServingClient → List Fid → ServingClient
using s fids = record s { beside = record s.beside { uses = used_all s.beside.uses fids } }

-- how a node is cached
abbrev pub hold_of : ServingClient → Fid → Hold
hold_of s fid = record {
  parent = map.get s.client.held.parents fid;
  from = s.beside.copies fid;
  dirty = is_mentioned (s.client.volumes fid.volume) fid;
}

-- the client's cache; no walk gave priorities
abbrev pub cache_of : ServingClient → CacheState
cache_of s = record {
  size = s.client.blocks;
  nodes = s.client.held.nodes;
  holds = map.from_entries (prelude.map (λ (e : Fid × Node). (e.0, hold_of s e.0)) (map.entries s.client.held.nodes));
  recency = filter (λ fid. has s.client.held.nodes fid) s.beside.uses;
  priorities = map.empty;
}

-- ---- which objects a call looks up

-- what follows where a step copied somewhere
abbrev pub look_on : Result Fid Refused → (Fid → List Fid) → List Fid
look_on (Err refusal) next = []
look_on (Ok fid) next = next fid

-- the objects looked up along names, in order: the last of them is the first that may not be served, where one may
-- not
abbrev pub looked_up : Nodes → Fid → List Name → List Fid
looked_up m at [] = at ∷ []
looked_up m at (name ∷ names) = at ∷ look_on (step_from (map.get m at) at name) (λ next. looked_up m next names)

-- those that a rename looks up: along the old path, and where that leads to an object along the new one
abbrev pub looked_up_to_rename : Nodes → ℕ → List Name → List Name → List Fid
looked_up_to_rename m volume from to =
    looked_up m (root_of volume) from ++ look_on (resolve m (root_of volume) from)
    (λ fid. looked_up m (root_of volume) to)

-- those that an ask looks up: of a creation those up to the parent, else those up to the object
abbrev pub looked_up_for : Nodes → ℕ → Asked → List Fid
looked_up_for m volume (Create path mode owner) = looked_up m (root_of volume) (front_of (ending path))
looked_up_for m volume (Mkdir path mode owner) = looked_up m (root_of volume) (front_of (ending path))
looked_up_for m volume (Symlink path target) = looked_up m (root_of volume) (front_of (ending path))
looked_up_for m volume (Store path content) = looked_up m (root_of volume) path
looked_up_for m volume (Setattr path attrs) = looked_up m (root_of volume) path
looked_up_for m volume (Remove path) = looked_up m (root_of volume) path
looked_up_for m volume (Rmdir path) = looked_up m (root_of volume) path
looked_up_for m volume (Rename from to) = looked_up_to_rename m volume from to

-- ---- room for an operation

-- the client once an operation was performed
abbrev pub once_operated : ServingClient → ℕ → Record → ServingClient
once_operated s volume rec = record {
  client = client_after s.client (entry.Op volume rec);
  beside = record s.beside { uses = used_new s.beside.uses (new_node rec.op) };
}

-- Who goes for an operation on a volume that looked these up, or why there is no room: as from the cache that the
-- operation makes of the client's.
abbrev pub goes_for : ServingClient → ℕ → Record → List Fid → Result (List Fid) CacheFault
goes_for s volume rec looked = evicted_between (cache_of s) (cache_of (once_operated s volume rec)) looked
