-- What a refused line leaves: a cell that is as it was, but for what its client fetched, for the chunk of a drain, and for a disk that failed.
use Rattle.std.specs.Prelude.{◌≡◌, ℕ, true, List, [], ◌∷◌, Option, Some}
use Rattle.coda_actors.specs.Plain.{PlainActor, Down, Tries}
use Rattle.coda_journal.specs.declared.header.Header.{Header}
use Rattle.coda_plain.specs.Cell.{ClientEntry, Fetched, Did}
use Rattle.coda_plain.specs.Decisions.{ReplicaEntry, Decided}
use Rattle.coda_plain.specs.Deeds.{Froze}
use Rattle.coda_plain.specs.Moves.{Append, AtClient, AtReplica}
use Rattle.coda_script.specs.declared.line.Line.{Line}
use Rattle.coda_script.specs.declared.line.Line.TheVariants as line
use Rattle.coda_script.specs.declared.line.Task.TheVariants as task
use Rattle.coda_script.specs.declared.reply.Reply.{Reply}
use Rattle.coda_shelves.specs.Cells.{Row, Cell, with_client, with_replica, appended, failed}
use Rattle.coda_shelves.specs.Lines.{is_built, Happens, refused_fault}
use Rattle.coda_runs.specs.Because.{IsRefused, MountsFor, MountsIn}
use Rattle.coda_runs.specs.Causes.{named_by}

-- what the client of an operation, a read or a listing fetches
abbrev pub IsFetch : Option (ℕ × ℕ) → Append → Type 0
IsFetch (Some on) (AtClient c (Fetched fid parent node)) = on.0 ≡ c
IsFetch on append = ⊥

-- the chunk that a drain freezes for its server, or the decision of that server on a chunk of its client
abbrev pub IsOfDrain : ℕ → ℕ → ℕ → Append → Type 0
IsOfDrain client volume server (AtClient c (Did v (Froze number home last))) = (client ≡ c) × (volume ≡ v) × (home ≡ server)
IsOfDrain client volume server (AtReplica s v (Decided c number span)) = (s ≡ server) × (volume ≡ v) × (client ≡ c)
IsOfDrain client volume server append = ⊥

-- the entries that a refused line may have added to histories
abbrev pub MayAdd : Line → Append → Type 0
MayAdd (line.Task (task.Drain client volume server window)) append = IsOfDrain client volume server append
MayAdd (line.Task t) append = IsFetch (named_by t) append
MayAdd said append = ⊥

abbrev pub AllMay : Line → List Append → Type 0
AllMay said [] = Unit {0}
AllMay said (append ∷ appends) = MayAdd said append × AllMay said appends

-- the first is a client's entry, and the second a replica's
abbrev pub GoesFirst : Append → Append → Type 0
GoesFirst (AtClient client entry) (AtReplica server volume decision) = Unit {0}
GoesFirst first second = ⊥

abbrev pub GoesBeforeAll : Append → List Append → Type 0
GoesBeforeAll append [] = Unit {0}
GoesBeforeAll append (next ∷ appends) = GoesFirst append next × GoesBeforeAll append appends

abbrev pub AreInTurn : List Append → Type 0
AreInTurn [] = Unit {0}
AreInTurn (append ∷ appends) = GoesBeforeAll append appends × AreInTurn appends

-- of a drain one entry of its client at most, and one of the replica behind it
abbrev pub TakeTurns : Line → List Append → Type 0
TakeTurns (line.Task (task.Drain client volume server window)) appends = AreInTurn appends
TakeTurns said appends = Unit {0}

-- a cell with entries more, and nothing else
abbrev pub added : Cell → List Append → Cell
added cell [] = cell
added cell (append ∷ appends) = added (appended cell append) appends

-- beside its actors a cell is as it was: the volumes that were made, links, letters, the clock and the copies of clients
pub record IsBeside (old new : Cell) : Type 0 where
  pub rows : new.rows ≡ old.rows
  pub areas : new.areas ≡ old.areas
  pub clock : new.clock ≡ old.clock
  pub links : new.links ≡ old.links
  pub waiting : new.waiting ≡ old.waiting
  pub posted : new.posted ≡ old.posted
  pub copies : new.copies ≡ old.copies
  pub uses : new.uses ≡ old.uses

pub data Leaves (old : Cell) (said : Line) (reply : Reply) (new : Cell) : Type 0 where
  -- it is as it was, with such entries
  Adds : (entries : List Append) → AllMay said entries → TakeTurns said entries → new ≡ added old entries → IsBeside old new → Leaves old said reply new
  -- and the append of the next one failed, so that its actor is down
  Falls : (entries : List Append) (next : Append) → AllMay said entries → TakeTurns said entries → reply ≡ refused_fault → new ≡ failed (added old entries) next → IsBeside old new → Leaves old said reply new
  -- The disk that it mounts is as it was, or had no entries and was given the header; its actor is down. A volume whose disk failed is there, and so is a client.
  ClientFalls : (client areas : ℕ) (header : Header) (actor : PlainActor ClientEntry) → MountsFor old said client header → Tries header (old.clients client).disk actor.disk → actor.life ≡ Down header
      → new ≡ record (with_client old client actor) { areas = areas } → Leaves old said reply new
  ReplicaFalls : (row server areas : ℕ) (rows : List Row) (header : Header) (actor : PlainActor ReplicaEntry) → MountsIn old said row server header → Tries header (old.replicas row server).disk actor.disk → actor.life ≡ Down header
      → new ≡ record (with_replica old row server actor) { rows = rows; areas = areas } → Leaves old said reply new

-- In whatever cell, a line that is built and is refused leaves it so.
abbrev pub RefusedLinesChangeLittle : Type 0
RefusedLinesChangeLittle = (cell : Cell) (said : Line) (reply : Reply) (outside : List (List ℕ)) (new : Cell) → is_built said ≡ true → Happens cell said reply outside new → IsRefused reply → Leaves cell said reply new
