-- What a client does that is asked for something on a volume.
use Rattle.std.specs.Prelude.{◌≡◌, ℕ, Bool, true, false, if◌then◌else◌, List, [], Option, Some, None, Result}
use Rattle.std.specs.BTreeMap.{BTreeMap}
use Rattle.coda_disk.specs.Told.{Told}
use Rattle.coda_journal.specs.declared.header.Header.{Header}
use Rattle.coda_plain.specs.Cell.{ClientEntry}
use Rattle.coda_tree.specs.Volume.{Nodes}
use Rattle.coda_actors.specs.declared.slot.Slot.{Slot}
use Rattle.coda_actors.specs.declared.slot.Slot.TheVariants.{Vacant, Spare, Stopped, Started}
use Rattle.coda_crew.specs.Crews.{slot_at}
use Rattle.coda_net.specs.Pool.{Pool}
use Rattle.coda_replica.specs.declared.replica.Replica.{Replica}
use Rattle.coda_script.specs.declared.line.Strength.{Strength}
use Rattle.coda_script.specs.declared.line.Strength.TheVariants.{Strong, Weak, Down}
use Rattle.coda_script.specs.declared.line.Task.{Task}
use Rattle.coda_script.specs.declared.line.Task.TheVariants as task
use Rattle.coda_script.specs.declared.reply.Reply.{Reply}
use Rattle.coda_venus.specs.Standing.{IsUp}
use Rattle.coda_venus.specs.declared.refused.Refused.{Refused as VenusRefused}
use Rattle.coda_venus.specs.declared.venus.Venus.{Venus}
use Rattle.coda_cell.specs.Asking.{Answer}
use Rattle.coda_cell.specs.Cells.{linked_in}
use Rattle.coda_cell.specs.Made.{client_of}
use Rattle.coda_cell.specs.State.{ClientState, CellState, Event}
use Rattle.coda_cell.specs.Steps.{Naming, ByClient, on_volume}
use Rattle.coda_matching.specs.Clients.{journal_by, IsClientHistory, Ends}
use Rattle.coda_serving.specs.Serving.{AreSpelledOffers}
use Rattle.coda_shelves.specs.Cells.{Cell, state_of}
use Rattle.coda_shelves.specs.Lines.{the_volume, is_down_for, links_to, EndsBy, Becoming, UnlessDown}
use Rattle.coda_site.specs.declared.site.Place.{Place}

-- ---- kinds of tasks

-- tasks that make an object
abbrev pub is_making : Task → Bool
is_making (task.Create client volume path mode owner) = true
is_making (task.Mkdir client volume path mode owner) = true
is_making (task.Symlink client volume path target) = true
is_making _ = false

-- tasks that change an object, remove or move it
abbrev pub is_changing : Task → Bool
is_changing (task.Setattr client volume path attrs) = true
is_changing (task.Remove client volume path) = true
is_changing (task.Rmdir client volume path) = true
is_changing (task.Rename client volume from to) = true
is_changing _ = false

-- ---- what is asked of a client

-- what a client answers, by what it can fetch and by what it has
abbrev pub Request : Type 0
Request = Option Nodes → ClientState → Answer

-- the cell as a client meets it that is asked for something on a volume: what a replica has that is down can't be fetched
abbrev pub met_by : Cell → ℕ → CellState
met_by cell volume = record (state_of cell) { links = links_to cell volume }

-- A client on a volume, both of which may be missing, answers a request, up to an entry for which its disk has no room or at which it fails.
pub record Answers (cell : Cell) (client volume : ℕ) (request : Request) (reply : Reply) (new : Cell) : Type 0 where
  pub own : Reply
  pub events : List Event
  pub does : Naming (on_volume (met_by cell volume) client volume) (ByClient (met_by cell volume) client volume request) own events
  pub ends : EndsBy cell events own reply new

-- the same, unless the client is down
abbrev pub Asks : Cell → ℕ → ℕ → Request → Becoming
Asks cell client volume request = UnlessDown (is_down_for (the_volume cell client volume)) cell (λ reply outside new. (outside ≡ []) × Answers cell client volume request reply new)

-- ---- what a client can fetch, by the site

-- the nodes of a replica that is up
abbrev pub nodes_in : {D : Type 0} → Slot (Replica D) D → Option Nodes
nodes_in Vacant = None
nodes_in (Spare disk) = None
nodes_in (Stopped header disk) = None
nodes_in (Started header replica) = if replica.down then None else Some replica.decider.tree.nodes

-- what comes over a link
abbrev pub carried : {A : Type 0} → Strength → Option A → Option A
carried Strong offers = offers
carried Weak offers = offers
carried Down offers = None

-- what a client can fetch of a volume that was made here
abbrev pub offered_at : {D : Type 0} → Pool → BTreeMap ℕ (Slot (Replica D) D) → ℕ → Option Place → Option Nodes
offered_at net replicas client None = None
offered_at net replicas client (Some p) = carried (linked_in net client p.server) (nodes_in (slot_at replicas p.disk))

-- ---- how a client's call ends

-- A client that was up in its slot was called with a request: it is in the slot still, and the call ended so by its history. A crash may leave its
-- disk as it is read.
abbrev pub SlotEnds : {D B : Type 0} → (D → Told) → Option Nodes → Request → Slot (Venus D) D → Slot (Venus D) D → (Reply → B → Type 0) → Result B VenusRefused → Type 0
SlotEnds {D = D} told offers request old new IsAs result =
    (header : Header) (venus : Venus D) → old ≡ Started header venus → (left : Venus D) × (new ≡ Started header left)
    × ((told left.journal.disk).honest → (told left.journal.disk).may_leave (told left.journal.disk).seen)
    × ((history : List ClientEntry) → IsUp told header venus (journal_by history) → IsClientHistory header history → AreSpelledOffers offers
    → let answer = request offers (client_of header.number history header.cache) in Ends told header history answer.entries answer.said IsAs left result)

-- the same of the client of a number
abbrev pub CallEnds : {D B : Type 0} → (D → Told) → ℕ → Option Nodes → Request → BTreeMap ℕ (Slot (Venus D) D) → BTreeMap ℕ (Slot (Venus D) D) → (Reply → B → Type 0) → Result B VenusRefused → Type 0
CallEnds told number offers request old new IsAs result = SlotEnds told offers request (slot_at old number) (slot_at new number) IsAs result
