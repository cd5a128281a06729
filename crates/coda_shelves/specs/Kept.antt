-- What holds of shelves, whichever of the failed entries join, and whoever was made on them.
use Rattle.std.specs.Prelude.{◌≡◌, ◌⊎◌, ◌<◌, ◌≤◌, ℕ, true, [], List, Some, None}
use Rattle.coda_fid.specs.declared.fid.Fid.{Fid}
use Rattle.coda_fid.specs.declared.op.Record.{Record}
use Rattle.coda_certify.specs.declared.verdict.Verdict.{Verdict}
use Rattle.coda_cancel.specs.Dropping.{mentioning}
use Rattle.coda_actors.specs.Plain.{PlainDisk}
use Rattle.coda_journal.specs.declared.header.Header.{Header}
use Rattle.coda_plain.specs.Histories.{In}
use Rattle.coda_plain.specs.Deeds.{Deed, Settlement, full_of, IsMade, AreNumberedObjects, settlements_of, AreLawful}
use Rattle.coda_plain.specs.Decisions.{ReplicaEntry, Decision, verdict_on, decisions_of}
use Rattle.coda_plain.specs.Cell.{deeds_of, PlainCell, new_actor, Joins}
use Rattle.coda_plain.specs.Elsewhere.{DoesFit}
use Rattle.coda_cell.specs.Kept.{IsHolding}
use Rattle.coda_cell.specs.Made.{client_of}
use Rattle.coda_matching.specs.Replicas.{IsDecision}
use Rattle.coda_shelves.specs.Shelves.{Shelves, client_header, replica_header, entries_on, Found, found_on}

abbrev pub deeds_in : Found → ℕ → ℕ → List Deed
deeds_in f client volume = deeds_of volume (f.clients client)

-- the replica at this place is of the volume, and decided so
abbrev pub Decides : Found → ℕ → ℕ → ℕ → Decision → Type 0
Decides f row server volume d = (f.volumes row server ≡ volume) × In d (decisions_of volume (f.replicas row server))

-- some replica of the volume, wherever it stands, decided the chunk with this verdict
pub record IsDecided (f : Found) (volume client number : ℕ) (verdict : Verdict) : Type 0 where
  pub row : ℕ
  pub server : ℕ
  pub by : Decision
  pub there : Decides f row server volume by
  pub client_is : by.client ≡ client
  pub number_is : by.number ≡ number
  pub verdict_is : verdict_on by ≡ verdict

-- The histories that are found agree with one another.
pub record DoAgree (f : Found) : Type 0 where
  -- each entry of a client may follow those before it
  pub lawful : (client volume : ℕ) → AreLawful (deeds_in f client volume)
  -- each client numbers what it creates
  pub numbered : (client volume : ℕ) → AreNumberedObjects volume client (deeds_in f client volume)
  -- no operation mentions an object above its client's count of creations
  pub made : (client volume : ℕ) (rec : Record) → In rec (full_of (deeds_in f client volume)) → (fid : Fid) → mentioning fid rec.op ≡ true → IsMade volume (deeds_in f fid.vnode volume) fid
  -- what a replica decided fits what clients did
  pub fits : (row server : ℕ) → DoesFit f.clients server (f.volumes row server) (f.replicas row server)
  -- each settlement has the verdict of a decision
  pub settled : (client volume : ℕ) (s : Settlement) → In s (settlements_of (deeds_in f client volume)) → IsDecided f volume client s.number s.verdict

-- A disk that was given no header holds nothing; else it is a header of such an actor.
abbrev pub IsLabelled : {Entry : Type 0} → (Header → Type 0) → PlainDisk Entry → Type 0
IsLabelled IsOwn disk = ((disk.header ≡ None) × (disk.history ≡ []) × (disk.failed ≡ None)) ⊎ ((header : Header) × (disk.header ≡ Some header) × IsOwn header)

abbrev pub IsArea : ℕ → Type 0
IsArea area = (1 ≤ area) × (area ≤ 64)

-- a header that a line may ask for which makes this client
abbrev pub IsOfClient : ℕ → Header → Type 0
IsOfClient client header =
    (blocks : ℕ) × (area : ℕ) × (1 ≤ client) × (client < 256) × (1 ≤ blocks) × (blocks ≤ 32768) × IsArea area × (header ≡ client_header client blocks area)

-- and one that makes a volume with a replica on this server
abbrev pub IsOfServer : ℕ → Header → Type 0
IsOfServer server header =
    (volume : ℕ) × (servers : List ℕ) × (area : ℕ) × (1 ≤ volume) × (1 ≤ server) × (server ≤ 8) × In server servers × IsArea area × (header ≡ replica_header volume servers area server)

-- the clients of a cell that have these histories
abbrev pub clients_with : Found → PlainCell
clients_with f = record { clients = λ client. record { history = f.clients client; failed = None; up = true }; replicas = λ server volume. new_actor; pool = λ message. None; posted = 0; learned = λ client volume. [] }

-- What holds of shelves between two lines, and between two runs.
pub record AreKept (shelves : Shelves) : Type 0 where
  pub clients : (client : ℕ) → IsLabelled (IsOfClient client) (shelves.clients client)
  pub replicas : (row server : ℕ) → IsLabelled (IsOfServer server) (shelves.replicas row server)
  pub agree : (joins : Joins) → DoAgree (found_on shelves joins)
  -- what a client holds is in order
  pub holding : (joins : Joins) (client : ℕ) (header : Header) → (shelves.clients client).header ≡ Some header → IsHolding (clients_with (found_on shelves joins)) (client_of client ((found_on shelves joins).clients client) header.cache)
  -- replicas decide alone: no resolution left them anything
  pub alone : (row server : ℕ) (entry : ReplicaEntry) → In entry (entries_on true (shelves.replicas row server)) → IsDecision entry
