-- The plain cell: the history of each actor, the entry whose append failed, the letters in the pool, and what clients learned elsewhere.
use Rattle.std.specs.Prelude.{ℕ, Bool, true, false, ◌==◌, if◌then◌else◌, Option, Some, None, List, [], ◌∷◌, ◌++◌}
use Rattle.coda_fid.specs.declared.fid.Fid.{Fid}
use Rattle.coda_tree.specs.declared.node.Node.{Node}
use Rattle.coda_certify.specs.declared.verdict.Verdict.{Verdict}
use Rattle.coda_plain.specs.Deeds.{Deed, Settlement}
use Rattle.coda_plain.specs.Decisions.{ReplicaEntry}

-- an entry of a client's history
pub data ClientEntry : Type 0 where
  -- it fetched a node, which it then holds below a parent, or below none where it is a volume's root
  Fetched : (fid : Fid) (parent : Option Fid) (node : Node) → ClientEntry
  -- it did something on a volume
  Did : (volume : ℕ) (deed : Deed) → ClientEntry
  -- it dropped nodes, to make room for what it did at once with that
  Dropping : (gone : List Fid) (entry : ClientEntry) → ClientEntry

abbrev pub deed_on : ℕ → ClientEntry → List Deed
deed_on volume (Fetched fid parent node) = []
deed_on volume (Did at deed) = if volume == at then deed ∷ [] else []
deed_on volume (Dropping gone entry) = deed_on volume entry

-- what a client did on one volume
abbrev pub deeds_of : ℕ → List ClientEntry → List Deed
deeds_of volume [] = []
deeds_of volume (entry ∷ entries) = deed_on volume entry ++ deeds_of volume entries

-- what a replica answers to a chunk: a verdict, or its last number
pub data Answer : Type 0 where
  Ruled : (verdict : Verdict) → Answer
  Behind : (last : ℕ) → Answer
  Old : (last : ℕ) → Answer

-- a letter: the chunk that a client has frozen, or the answer to it
pub data Letter : Type 0 where
  ChunkSent : (client server volume number : ℕ) → Letter
  AnswerSent : (server client volume number : ℕ) (answer : Answer) → Letter
  -- the server tells the client of objects that changed
  BreakSent : (server client : ℕ) (fids : List Fid) → Letter

-- an actor: the entries that are on its disk, the entry whose append failed, which may be there too, and whether it is up
pub record Actor (E : Type 0) : Type 0 where
  pub history : List E
  pub failed : Option E
  pub up : Bool

-- The actors, the letters and how many were posted; and of each client and volume what the client learned of chunks that were decided by replicas which are
-- none of this cell's: their disks stand where no line has made the volume again.
pub record PlainCell : Type 0 where
  pub clients : ℕ → Actor ClientEntry
  pub replicas : ℕ → ℕ → Actor ReplicaEntry
  pub pool : ℕ → Option Letter
  pub posted : ℕ
  pub learned : ℕ → ℕ → List Settlement

-- an actor that did nothing
abbrev pub new_actor : {E : Type 0} → Actor E
new_actor = record { history = []; failed = None; up = true }

abbrev pub empty_cell : PlainCell
empty_cell = record { clients = λ client. new_actor; replicas = λ server volume. new_actor; pool = λ message. None; posted = 0; learned = λ client volume. [] }

-- ---- the histories that recoveries may find

-- a history, with the failed entry where it joins
abbrev pub joined_to : {E : Type 0} → List E → Bool → Option E → List E
joined_to history true (Some entry) = history ++ entry ∷ []
joined_to history true None = history
joined_to history false failed = history

abbrev pub found : {E : Type 0} → Bool → Actor E → List E
found joins actor = joined_to actor.history joins actor.failed

-- the histories of all actors, and what clients learned of replicas that are none of these
pub record Histories : Type 0 where
  pub clients : ℕ → List ClientEntry
  pub replicas : ℕ → ℕ → List ReplicaEntry
  pub learned : ℕ → ℕ → List Settlement

-- which of the failed entries join
pub record Joins : Type 0 where
  pub clients : ℕ → Bool
  pub replicas : ℕ → ℕ → Bool

abbrev pub found_in : PlainCell → Joins → Histories
found_in cell joins = record {
  clients = λ client. found (joins.clients client) (cell.clients client);
  replicas = λ server volume. found (joins.replicas server volume) (cell.replicas server volume);
  learned = cell.learned;
}
