-- A cell: what stands on its disks, and what this run made.
use Rattle.std.specs.Prelude.{◌+◌, length, ℕ, Bool, true, false, ◌==◌, ◌&&◌, if◌then◌else◌, List, [], ◌∷◌, ◌++◌, map, Option, Some, None}
use Rattle.std.specs.Option.{option_map}
use Rattle.coda_actors.specs.Plain.{PlainDisk, PlainActor, Life, Unmade, Down, Up}
use Rattle.coda_fid.specs.declared.fid.Fid.{Fid}
use Rattle.coda_journal.specs.declared.header.Header.{Header}
use Rattle.coda_letters.specs.Sent.{Waiting, without}
use Rattle.coda_plain.specs.Cell.{ClientEntry}
use Rattle.coda_plain.specs.Decisions.{ReplicaEntry}
use Rattle.coda_plain.specs.Moves.{Append, AtClient, AtReplica}
use Rattle.coda_script.specs.declared.line.Strength.{Strength}
use Rattle.coda_script.specs.declared.line.Strength.TheVariants.{Down as LinkIsDown}
use Rattle.coda_cell.specs.Made.{Copy, client_of, replica_of}
use Rattle.coda_cell.specs.State.{put, later, linked, CellState, Event, VolumeMade, ClientMade, Ticked, LinkSet, Entered, Posted, Lost, Used, Kept, Stale, but_of, with_copy, cut_by, used_then}
use Rattle.coda_cell.specs.Steps.{alone}
use Rattle.coda_shelves.specs.Shelves.{Shelves}

-- a volume that this run made, and the servers that it is on
pub record Row : Type 0 where
  pub volume : ℕ
  pub servers : List ℕ

-- Of each disk what it holds, and of its actor whether this run made it, under which header, and whether it is up; and the image that its last crash left. The
-- volumes that this run made, in order; the MiB of all areas; the clock, the links, what waits in letters, and how many were posted; the valid copies of
-- each client, and the objects in the order in which it used them.
pub record Cell : Type 0 where
  pub clients : ℕ → PlainActor ClientEntry
  pub replicas : ℕ → ℕ → PlainActor ReplicaEntry
  pub rows : List Row
  pub areas : ℕ
  pub clock : ℕ
  pub links : ℕ → ℕ → Strength
  pub waiting : Waiting
  pub posted : ℕ
  pub copies : ℕ → Fid → Option Copy
  pub uses : ℕ → List Fid

abbrev pub lying : {Entry : Type 0} → PlainDisk Entry → PlainActor Entry
lying disk = record { disk = disk; life = Unmade; left = None }

-- a run begins: the disks are as they are, and nothing is made
abbrev pub begun_on : Shelves → Cell
begun_on shelves = record {
  clients = λ client. lying (shelves.clients client);
  replicas = λ row server. lying (shelves.replicas row server);
  rows = [];
  areas = 0;
  clock = 0;
  links = λ client server. LinkIsDown;
  waiting = [];
  posted = 0;
  copies = λ client fid. None;
  uses = λ client. [];
}

abbrev pub shelves_of : Cell → Shelves
shelves_of cell = record { clients = λ client. (cell.clients client).disk; replicas = λ row server. (cell.replicas row server).disk }

-- ---- who is made, and where

-- the header that an actor asks for which was made
abbrev pub asked : Life → Option Header
asked Unmade = None
asked (Down header) = Some header
asked (Up header) = Some header

abbrev pub is_up : Life → Bool
is_up Unmade = false
is_up (Down header) = false
is_up (Up header) = true

-- a volume stands in a row, on these servers
pub record Stand : Type 0 where
  pub row : ℕ
  pub servers : List ℕ

abbrev pub stand_from : ℕ → List Row → ℕ → Option Stand
stand_from row [] volume = None
stand_from row (r ∷ rows) volume = if r.volume == volume then Some (record { row = row; servers = r.servers }) else stand_from (row + 1) rows volume

-- where a volume stands that this run made
abbrev pub stand_of : Cell → ℕ → Option Stand
stand_of cell volume = stand_from 0 cell.rows volume

-- what the cell is at this moment: a volume is on one server so far
abbrev pub state_of : Cell → CellState
state_of cell = record {
  clock = cell.clock;
  servers = map (λ (r : Row). alone r.servers) cell.rows;
  replicas = λ volume. option_map (λ (at : Stand). replica_of (λ server. (cell.replicas at.row server).disk.history) volume (alone at.servers)) (stand_of cell volume);
  clients = λ client. option_map (λ (header : Header). client_of client (cell.clients client).disk.history header.cache) (asked (cell.clients client).life);
  links = cell.links;
  waiting = cell.waiting;
  posted = cell.posted;
  copies = λ client fid. option_map (λ (copy : Copy). copy.server) (cell.copies client fid);
  uses = cell.uses;
}

-- ---- what happens

-- a cell with another client, or with another replica at a place
abbrev pub with_client : Cell → ℕ → PlainActor ClientEntry → Cell
with_client cell client actor = record cell { clients = put cell.clients client actor }

abbrev pub with_replica : Cell → ℕ → ℕ → PlainActor ReplicaEntry → Cell
with_replica cell row server actor = record cell { replicas = λ r s. if (r == row) && (s == server) then actor else cell.replicas r s }

-- one entry more is on the disk of an actor
abbrev pub grown : {Entry : Type 0} → Entry → PlainActor Entry → PlainActor Entry
grown entry actor = record actor { disk = record actor.disk { history = actor.disk.history ++ entry ∷ [] } }

abbrev pub fallen : Life → Life
fallen Unmade = Unmade
fallen (Down header) = Down header
fallen (Up header) = Down header

-- the append of an entry failed, and its actor is down
abbrev pub failing : {Entry : Type 0} → Entry → PlainActor Entry → PlainActor Entry
failing entry actor = record { disk = record actor.disk { failed = Some entry }; life = fallen actor.life; left = actor.left }

-- the replica of a volume on this server, as it is then, where this run made the volume
abbrev pub with_volume : Cell → Option Stand → ℕ → (PlainActor ReplicaEntry → PlainActor ReplicaEntry) → Cell
with_volume cell None server f = cell
with_volume cell (Some at) server f = with_replica cell at.row server (f (cell.replicas at.row server))

abbrev pub appended : Cell → Append → Cell
appended cell (AtClient client entry) = with_client cell client (grown entry (cell.clients client))
appended cell (AtReplica server volume entry) = with_volume cell (stand_of cell volume) server (grown entry)

abbrev pub failed : Cell → Append → Cell
failed cell (AtClient client entry) = with_client cell client (failing entry (cell.clients client))
failed cell (AtReplica server volume entry) = with_volume cell (stand_of cell volume) server (failing entry)

-- how many entries stand on the disk of a volume's replica on this server, where this run made the volume
abbrev pub entries_at : Cell → Option Stand → ℕ → ℕ
entries_at cell None server = 0
entries_at cell (Some at) server = length (cell.replicas at.row server).disk.history

-- a cell with what an event adds; lines that make actors have no events
abbrev pub after : Cell → Event → Cell
after cell (VolumeMade volume server) = cell
after cell (ClientMade client blocks) = cell
after cell (Ticked seconds) = record cell { clock = later cell.clock seconds }
after cell (LinkSet client server strength) = record cell { links = linked cell.links client server strength; copies = cut_by (λ (copy : Copy). copy.server) strength cell.copies client server }
after cell (Entered append) = appended cell append
after cell (Posted sent) = record cell { waiting = cell.waiting ++ (cell.posted + 1, sent) ∷ []; posted = cell.posted + 1 }
after cell (Lost message) = record cell { waiting = without message cell.waiting }
after cell (Used client fids) = record cell { uses = put cell.uses client (used_then (cell.uses client) fids) }
after cell (Kept client server fid) = record cell { copies = with_copy cell.copies client fid (record { server = server; position = entries_at cell (stand_of cell fid.volume) server }) }
after cell (Stale client fids) = record cell { copies = but_of cell.copies client fids }

abbrev pub after_all : Cell → List Event → Cell
after_all cell [] = cell
after_all cell (event ∷ events) = after_all (after cell event) events
