-- What holds of a cell between two lines of a run.
use Rattle.std.specs.Prelude.{◌≡◌, ℕ, true, ◌==◌, ◌&&◌, if◌then◌else◌, List, [], map, Option, Some, None}
use Rattle.std.specs.Option.{option_map}
use Rattle.coda_fid.specs.declared.op.Record.{Record}
use Rattle.coda_certify.specs.declared.verdict.Verdict.{Verdict}
use Rattle.coda_actors.specs.Laws.{IsAtRest}
use Rattle.coda_actors.specs.Plain.{Life, Unmade}
use Rattle.coda_journal.specs.declared.header.Header.{Header}
use Rattle.coda_plain.specs.Cell.{Ruled, Letter, ChunkSent, AnswerSent, Joins}
use Rattle.coda_plain.specs.Decisions.{ReplicaEntry}
use Rattle.coda_plain.specs.Deeds.{Settlement, settlements_of, chunks_of}
use Rattle.coda_plain.specs.Histories.{In}
use Rattle.coda_plain.specs.Sound.{IsDecided as IsDecidedNow}
use Rattle.coda_cell.specs.Made.{MadeCell}
use Rattle.coda_cell.specs.Runs.{AreLettersOf}
use Rattle.coda_cell.specs.Steps.{alone}
use Rattle.coda_shelves.specs.Shelves.{volume_of, entries_on, Found, found_on}
use Rattle.coda_shelves.specs.Cells.{Row, Cell, shelves_of, asked, Stand, stand_of}
use Rattle.coda_shelves.specs.Kept.{deeds_in, IsOfClient, IsOfServer, AreKept}

-- ---- the actors of this run

-- what would be found of the replica of a volume on a server, where this run made it on its own disk
abbrev pub replica_now : Cell → Joins → Option Stand → ℕ → ℕ → List ReplicaEntry
replica_now cell joins None server volume = []
replica_now cell joins (Some at) server volume =
    if (server == alone at.servers) && (volume_of (cell.replicas at.row server).disk.header == volume) then entries_on (joins.replicas at.row server) (cell.replicas at.row server).disk else []

-- the blocks of a client by the header of its disk, or by the one that it asks for
abbrev pub size_on : Option Header → Life → Option ℕ
size_on None life = option_map (λ (header : Header). header.cache) (asked life)
size_on (Some header) life = Some header.cache

-- The cell as it would be found if all clients that have a disk and all replicas of this run were recovered, with these letters posted.
abbrev pub made_now : Cell → Joins → (ℕ → Option Letter) → (ℕ → ℕ → List Settlement) → MadeCell
made_now cell joins pool learned = record {
  clock = cell.clock;
  servers = map (λ (r : Row). alone r.servers) cell.rows;
  homes = λ volume. option_map (λ (at : Stand). alone at.servers) (stand_of cell volume);
  sizes = λ client. size_on (cell.clients client).disk.header (cell.clients client).life;
  links = cell.links;
  waiting = cell.waiting;
  acted = record {
    clients = λ client. record { history = entries_on (joins.clients client) (cell.clients client).disk; failed = None; up = true };
    replicas = λ server volume. record { history = replica_now cell joins (stand_of cell volume) server volume; failed = None; up = true };
    pool = pool;
    posted = cell.posted;
    learned = learned;
  };
  copies = cell.copies;
  uses = cell.uses;
}

-- what clients settled
abbrev pub settled_on : Found → ℕ → ℕ → List Settlement
settled_on f client volume = settlements_of (deeds_in f client volume)

-- ---- what holds of it

-- who was made asks for a header of a replica on this server, of the volume that stands in this row
abbrev pub IsOfRow : Cell → ℕ → ℕ → Header → Type 0
IsOfRow cell row server header = IsOfServer server header × ((servers : List ℕ) × (stand_of cell header.number ≡ Some (record { row = row; servers = servers })))

-- What letters say is so: each chunk was frozen for its server, and each verdict is that of a decision of this run's replica, as found of it.
pub record AreLettersSo (cell : Cell) (pool : ℕ → Option Letter) (joins : Joins) : Type 0 where
  pub letters : AreLettersOf (made_now cell joins pool (settled_on (found_on (shelves_of cell) joins)))
  pub sent : (message client server volume number : ℕ) → pool message ≡ Some (ChunkSent client server volume number)
      → (span : List Record) × In (record { number = number; home = server; span = span }) (chunks_of (deeds_in (found_on (shelves_of cell) joins) client volume))
  pub answered : (message server client volume number : ℕ) (verdict : Verdict) → pool message ≡ Some (AnswerSent server client volume number (Ruled verdict))
      → IsDecidedNow (λ server volume. replica_now cell joins (stand_of cell volume) server volume) volume client number verdict

-- Its shelves are kept; who is up is so on its own disk, and none of its appends failed; whoever was made asks for a header of its own; of no disk whose actor
-- isn't made is it known what a crash left; and what letters say is so.
pub record IsKept (cell : Cell) : Type 0 where
  pub shelves : AreKept (shelves_of cell)
  pub clients_rest : (client : ℕ) → IsAtRest (cell.clients client)
  pub replicas_rest : (row server : ℕ) → IsAtRest (cell.replicas row server)
  pub clients_ask : (client : ℕ) (header : Header) → asked (cell.clients client).life ≡ Some header → IsOfClient client header
  pub replicas_ask : (row server : ℕ) (header : Header) → asked (cell.replicas row server).life ≡ Some header → IsOfRow cell row server header
  pub clients_left : (client : ℕ) → (cell.clients client).life ≡ Unmade → (cell.clients client).left ≡ None
  pub replicas_left : (row server : ℕ) → (cell.replicas row server).life ≡ Unmade → (cell.replicas row server).left ≡ None
  pub pool : ℕ → Option Letter
  pub letters : (joins : Joins) → AreLettersSo cell pool joins
