-- What a cell is at a moment, and what an entry of a history makes of it.
use Rattle.std.specs.Prelude.{ℕ, ◌+◌, min, not, ◌==◌, ◌&&◌, if◌then◌else◌, List, [], ◌∷◌, ◌++◌, Option, Some, None}
use Rattle.std.specs.Option.{option_map}
use Rattle.std.specs.List.{list_any, filter}
use Rattle.coda_fid.specs.Fid.{same_fid}
use Rattle.coda_fid.specs.declared.fid.Fid.{Fid}
use Rattle.coda_fid.specs.declared.op.Record.{Record}
use Rattle.coda_tree.specs.Volume.{Nodes, Tree, fresh}
use Rattle.coda_certify.specs.Verdicts.{verdict_of, nodes_left}
use Rattle.coda_cancel.specs.Cancel.{fold}
use Rattle.coda_cml.specs.Segments.{segments_of, records_upto, records_above}
use Rattle.coda_cml.specs.State.{LogState}
use Rattle.coda_cml.specs.Steps.{pending_after}
use Rattle.coda_cml.specs.declared.frozen.Frozen.{Frozen}
use Rattle.coda_script.specs.declared.line.Strength.{Strength}
use Rattle.coda_script.specs.declared.line.Strength.TheVariants.{Strong, Weak, Down}
use Rattle.coda_plain.specs.Deeds.{Deed, Operated, Froze, Settled, Gaveup, created_by}
use Rattle.coda_plain.specs.Objects.{nodes_in}
use Rattle.coda_plain.specs.Decisions.{ReplicaEntry, Decided, Resolved, Last, with_last, no_lasts, decision}
use Rattle.coda_plain.specs.Cell.{ClientEntry, Fetched, Did, Dropping}
use Rattle.coda_plain.specs.Moves.{Append, AtClient, AtReplica}
use Rattle.coda_letters.specs.Sent.{Sent, Waiting, without}
use Rattle.coda_replica.specs.State.{ReplicaState as Replica, last_for}
use Rattle.coda_cell.specs.Held.{held_after}
use Rattle.coda_venus.specs.Held.{Held, nothing_held}

-- the same for each key, but this at one of them
abbrev pub put : {A : Type 0} → (ℕ → A) → ℕ → A → ℕ → A
put f k x q = if q == k then x else f q

-- ---- a client

-- What a client has of a volume: the operations of its log, uncancelled, of which those in front are frozen as a chunk where one is; and
-- how many operations it accepted, objects it created and chunks it froze there.
pub record ClientVolume : Type 0 where
  pub frozen : Option Frozen
  pub front : List Record
  pub back : List Record
  pub operations : ℕ
  pub creations : ℕ
  pub chunks : ℕ

-- a volume on which a client did nothing
abbrev pub new_volume : ClientVolume
new_volume = record { frozen = None; front = []; back = []; operations = 0; creations = 0; chunks = 0 }

-- the operations that no server has applied yet
abbrev pub pending : ClientVolume → List Record
pending v = v.front ++ v.back

-- what cancellation leaves of them: the client's log
abbrev pub log_of : ClientVolume → LogState
log_of v = record {
  frozen = v.frozen;
  chunk = fold v.front;
  chunk_segments = segments_of v.front;
  records = fold v.back;
  segments = segments_of v.back;
  last = v.operations;
  chunks = v.chunks;
}

abbrev pub volume_after : ClientVolume → Deed → ClientVolume
volume_after v (Operated rec) = record v { back = v.back ++ rec ∷ []; operations = rec.number; creations = v.creations + created_by rec.op }
volume_after v (Froze number home last) = record v {
  frozen = Some (record { number = number; home = home });
  front = records_upto last v.back;
  back = records_above last v.back;
  chunks = number;
}
volume_after v (Settled number verdict) = record v { frozen = None; front = []; back = pending_after verdict v.front v.back }
volume_after v Gaveup = record v { frozen = None; front = []; back = [] }

-- what a client has: the blocks of its cache, what it holds, and what it has of each volume
pub record ClientState : Type 0 where
  pub number : ℕ
  pub blocks : ℕ
  pub held : Held
  pub volumes : ℕ → ClientVolume

-- a client that was just made
abbrev pub new_client : ℕ → ℕ → ClientState
new_client number blocks = record { number = number; blocks = blocks; held = nothing_held; volumes = λ volume. new_volume }

abbrev pub volumes_after : (ℕ → ClientVolume) → ClientEntry → ℕ → ClientVolume
volumes_after volumes (Fetched fid parent node) = volumes
volumes_after volumes (Did volume deed) = put volumes volume (volume_after (volumes volume) deed)
volumes_after volumes (Dropping gone entry) = volumes_after volumes entry

-- a client after an entry
abbrev pub client_after : ClientState → ClientEntry → ClientState
client_after c entry = record c { held = held_after c.held c.number entry; volumes = volumes_after c.volumes entry }

-- a client after entries in order
abbrev pub client_after_all : ClientState → List ClientEntry → ClientState
client_after_all c [] = c
client_after_all c (entry ∷ entries) = client_after_all (client_after c entry) entries

-- ---- a replica

-- one server's copy of a volume, and the last chunk of each client that it decided, with its verdict
pub record ReplicaState : Type 0 where
  pub server : ℕ
  pub tree : Tree
  pub lasts : ℕ → Last

-- a replica that was just made
abbrev pub new_replica : ℕ → ℕ → ReplicaState
new_replica server volume = record { server = server; tree = fresh volume; lasts = no_lasts }

-- a volume whose nodes are others
abbrev pub with_nodes : Tree → Nodes → Tree
with_nodes tree nodes = record tree { nodes = nodes }

-- a replica after an entry
abbrev pub replica_after : ReplicaState → ReplicaEntry → ReplicaState
replica_after r (Decided client number span) = record r {
  tree = with_nodes r.tree (nodes_left r.tree.nodes (decision r.tree.nodes client span));
  lasts = with_last r.lasts client (record { number = number; verdict = verdict_of (decision r.tree.nodes client span) });
}
replica_after r (Resolved objects lasts) = record r { tree = with_nodes r.tree (nodes_in objects); lasts = lasts }

-- a replica after entries in order
abbrev pub replica_after_all : ReplicaState → List ReplicaEntry → ReplicaState
replica_after_all r [] = r
replica_after_all r (entry ∷ entries) = replica_after_all (replica_after r entry) entries

-- ---- a cell

-- what a cell is at a moment: its clock in seconds, the servers of the volumes in the order of making, the replica of each volume and
-- each client once it was made, the links between clients and servers, what waits in letters between them, in the order of their
-- numbers, and how many letters were posted
pub record CellState : Type 0 where
  pub clock : ℕ
  pub servers : List ℕ
  pub replicas : ℕ → Option ReplicaState
  pub clients : ℕ → Option ClientState
  pub links : ℕ → ℕ → Strength
  pub waiting : Waiting
  pub posted : ℕ
  -- the server of each valid copy of a client, and the objects in the order in which it used them
  pub copies : ℕ → Fid → Option ℕ
  pub uses : ℕ → List Fid

-- what happens in a cell
pub data Event : Type 0 where
  -- a volume is made, on a server
  VolumeMade : (volume server : ℕ) → Event
  -- a client is made, with so many blocks of cache
  ClientMade : (client blocks : ℕ) → Event
  -- time passes
  Ticked : (seconds : ℕ) → Event
  -- the link between a client and a server changes
  LinkSet : (client server : ℕ) (strength : Strength) → Event
  -- the history of an actor has one more entry
  Entered : (append : Append) → Event
  -- a letter is posted, which says this
  Posted : (sent : Sent) → Event
  -- the letter of this number is lost
  Lost : (message : ℕ) → Event
  -- a client looked these up, in this order
  Used : (client : ℕ) (fids : List Fid) → Event
  -- its copy of an object is valid, as a server gave it
  Kept : (client server : ℕ) (fid : Fid) → Event
  -- its copies of these aren't valid any more
  Stale : (client : ℕ) (fids : List Fid) → Event

-- an entry of a client, as it happens
abbrev pub at_client : ℕ → ClientEntry → Event
at_client client entry = Entered (AtClient client entry)

-- a cell in which nothing was made; all links are down
abbrev pub empty_state : CellState
empty_state = record { clock = 0; servers = []; replicas = λ volume. None; clients = λ client. None; links = λ client server. Down; waiting = []; posted = 0; copies = λ client fid. None; uses = λ client. [] }

-- a clock some seconds later; it stops at the last number of 64 bits
abbrev pub later : ℕ → ℕ → ℕ
later clock seconds = min (clock + seconds) 18446744073709551615

-- the links, with another strength between a client and a server
abbrev pub linked : (ℕ → ℕ → Strength) → ℕ → ℕ → Strength → ℕ → ℕ → Strength
linked links client server strength c s = if (c == client) && (s == server) then strength else links c s

-- ---- beside the histories

-- the valid copies of a client, without those of these objects
abbrev pub but_of : {A : Type 0} → (ℕ → Fid → Option A) → ℕ → List Fid → ℕ → Fid → Option A
but_of copies client fids c f = if (c == client) && list_any (λ g. same_fid g f) fids then None else copies c f

-- with one of an object
abbrev pub with_copy : {A : Type 0} → (ℕ → Fid → Option A) → ℕ → Fid → A → ℕ → Fid → Option A
with_copy copies client fid copy c f = if (c == client) && same_fid f fid then Some copy else copies c f

-- the copy, unless it is from this server
abbrev pub unless_from : {A : Type 0} → (A → ℕ) → ℕ → Option A → Option A
unless_from from server None = None
unless_from from server (Some copy) = if from copy == server then None else Some copy

-- a link that is down takes the copies from its server
abbrev pub cut_by : {A : Type 0} → (A → ℕ) → Strength → (ℕ → Fid → Option A) → ℕ → ℕ → ℕ → Fid → Option A
cut_by from Down copies client server c f = if c == client then unless_from from server (copies c f) else copies c f
cut_by from Weak copies client server c f = copies c f
cut_by from Strong copies client server c f = copies c f

-- objects in the order of their use, with these used last
abbrev pub used_then : List Fid → List Fid → List Fid
used_then uses [] = uses
used_then uses (fid ∷ fids) = used_then (filter (λ g. not (same_fid g fid)) uses ++ fid ∷ []) fids

-- a replica after an entry of the one on this server
abbrev pub replica_after_at : ℕ → ReplicaEntry → ReplicaState → ReplicaState
replica_after_at server entry r = if r.server == server then replica_after r entry else r

-- a cell after an event
abbrev pub after : CellState → Event → CellState
after s (VolumeMade volume server) = record s { servers = s.servers ++ server ∷ []; replicas = put s.replicas volume (Some (new_replica server volume)) }
after s (ClientMade client blocks) = record s { clients = put s.clients client (Some (new_client client blocks)) }
after s (Ticked seconds) = record s { clock = later s.clock seconds }
after s (LinkSet client server strength) = record s { links = linked s.links client server strength; copies = cut_by (λ n. n) strength s.copies client server }
after s (Entered (AtClient client entry)) = record s { clients = put s.clients client (option_map (λ c. client_after c entry) (s.clients client)) }
after s (Entered (AtReplica server volume entry)) = record s { replicas = put s.replicas volume (option_map (replica_after_at server entry) (s.replicas volume)) }
after s (Posted sent) = record s { waiting = s.waiting ++ (s.posted + 1, sent) ∷ []; posted = s.posted + 1 }
after s (Lost message) = record s { waiting = without message s.waiting }
after s (Used client fids) = record s { uses = put s.uses client (used_then (s.uses client) fids) }
after s (Kept client server fid) = record s { copies = with_copy s.copies client fid server }
after s (Stale client fids) = record s { copies = but_of s.copies client fids }

-- a cell after events in order
abbrev pub after_all : CellState → List Event → CellState
after_all s [] = s
after_all s (event ∷ events) = after_all (after s event) events

-- ---- states of others

-- a client with something else of a volume
abbrev pub with_volume : ClientState → ℕ → ClientVolume → ClientState
with_volume c volume v = record c { volumes = put c.volumes volume v }

-- what a replica is that keeps the last decisions as a finite map
abbrev pub replica_state : Replica → ReplicaState
replica_state r = record { server = r.server; tree = r.tree; lasts = λ client. last_for r client }
