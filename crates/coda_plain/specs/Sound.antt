-- What holds of the histories of a cell together, whichever of the failed entries join.
use Rattle.std.specs.Prelude.{◌≡◌, ◌⊎◌, ℕ, ◌<◌, ◌≤◌, true, Option, Some, None, List}
use Rattle.coda_fid.specs.declared.fid.Fid.{Fid}
use Rattle.coda_fid.specs.declared.op.Record.{Record}
use Rattle.coda_tree.specs.Volume.{has}
use Rattle.coda_certify.specs.declared.verdict.Verdict.{Verdict}
use Rattle.coda_cancel.specs.Dropping.{mentioning}
use Rattle.coda_plain.specs.Histories.{In}
use Rattle.coda_plain.specs.Deeds.{Deed, Settlement, full_of, IsMade, AreNumberedObjects, course_of, chunks_of, settlements_of, AreLawful}
use Rattle.coda_plain.specs.Decisions.{ReplicaEntry, Decision, verdict_on, decisions_of, nodes_of, last_of, AreDecisions}
use Rattle.coda_plain.specs.Cell.{deeds_of, Ruled, Letter, ChunkSent, AnswerSent, PlainCell, Histories, Joins, found_in}

-- what a client did on a volume
abbrev pub deeds_in : Histories → ℕ → ℕ → List Deed
deeds_in h client volume = deeds_of volume (h.clients client)

-- the client froze this chunk for this server
abbrev pub HasFrozen : Histories → ℕ → ℕ → ℕ → ℕ → List Record → Type 0
HasFrozen h client volume number server span = In (record { number = number; home = server; span = span }) (chunks_of (deeds_in h client volume))

-- some replica of the volume decided this chunk, with this verdict
pub record IsDecided (replicas : ℕ → ℕ → List ReplicaEntry) (volume client number : ℕ) (verdict : Verdict) : Type 0 where
  pub server : ℕ
  pub by : Decision
  pub there : In by (decisions_of volume (replicas server volume))
  pub client_is : by.client ≡ client
  pub number_is : by.number ≡ number
  pub verdict_is : verdict_on by ≡ verdict

-- Histories agree with one another, and with the letters that are in the pool.
pub record DoAgree (h : Histories) (pool : ℕ → Option Letter) : Type 0 where
  -- each entry may follow those before it
  pub lawful : (client volume : ℕ) → AreLawful (deeds_in h client volume)
  pub ruled : (server volume : ℕ) → AreDecisions volume (h.replicas server volume)
  -- each client numbers what it creates
  pub numbered : (client volume : ℕ) → AreNumberedObjects volume client (deeds_in h client volume)
  -- no operation mentions an object above its client's count of creations
  pub made : (client volume : ℕ) (rec : Record) → In rec (full_of (deeds_in h client volume)) → (fid : Fid) → mentioning fid rec.op ≡ true → IsMade volume (deeds_in h fid.vnode volume) fid
  -- nor does a replica hold one
  pub held : (server volume : ℕ) (fid : Fid) → has (nodes_of volume (h.replicas server volume)) fid ≡ true → IsMade volume (deeds_in h fid.vnode volume) fid
  -- each decision is of a chunk that its client froze for this server, with the operations that it froze
  pub frozen : (server volume : ℕ) (d : Decision) → In d (decisions_of volume (h.replicas server volume)) → HasFrozen h d.client volume d.number server d.span
  -- no last number is above the number of chunks that the client froze
  pub reached : (server volume client : ℕ) → (last_of volume (h.replicas server volume) client).number ≤ (course_of (deeds_in h client volume)).chunks
  -- each last verdict that is kept is that of a decision
  pub kept : (server volume client : ℕ) → 0 < (last_of volume (h.replicas server volume) client).number
      → IsDecided h.replicas volume client (last_of volume (h.replicas server volume) client).number (last_of volume (h.replicas server volume) client).verdict
  -- each settlement has the verdict of a decision, or was learned of a replica that is none of these
  pub settled : (client volume : ℕ) (s : Settlement) → In s (settlements_of (deeds_in h client volume)) → IsDecided h.replicas volume client s.number s.verdict ⊎ In s (h.learned client volume)
  -- each letter with a chunk is of one that was frozen for its server
  pub sent : (message client server volume number : ℕ) → pool message ≡ Some (ChunkSent client server volume number) → (span : List Record) × HasFrozen h client volume number server span
  -- each letter with a verdict is of a decision
  pub answered : (message server client volume number : ℕ) (verdict : Verdict) → pool message ≡ Some (AnswerSent server client volume number (Ruled verdict)) → IsDecided h.replicas volume client number verdict

-- The cell is sound: an actor that is up has no failed entry, and whichever of the failed entries join, the histories agree.
pub record IsSound (cell : PlainCell) : Type 0 where
  pub clients_up : (client : ℕ) → (cell.clients client).up ≡ true → (cell.clients client).failed ≡ None
  pub replicas_up : (server volume : ℕ) → (cell.replicas server volume).up ≡ true → (cell.replicas server volume).failed ≡ None
  pub agree : (joins : Joins) → DoAgree (found_in cell joins) cell.pool
