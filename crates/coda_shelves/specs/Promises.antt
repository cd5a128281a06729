-- What the histories that are found on disks promise, in the words of a file system that replays logs.
use Rattle.std.specs.Prelude.{◌≡◌, ◌≢◌, ℕ, ◌⊎◌, Ok, List, ◌∷◌, ◌++◌}
use Rattle.coda_fid.specs.Fid.{root_of}
use Rattle.coda_fid.specs.declared.op.Record.{Record}
use Rattle.coda_tree.specs.Volume.{Nodes, IsVolume}
use Rattle.coda_certify.specs.declared.reason.Reason.{Reason}
use Rattle.coda_certify.specs.declared.verdict.Verdict.TheVariants.{Applied, Conflict}
use Rattle.coda_certify.specs.Replay.{replay}
use Rattle.coda_cancel.specs.Numbers.{IsRising}
use Rattle.coda_cml.specs.Steady.{IsSteady}
use Rattle.coda_plain.specs.Histories.{In}
use Rattle.coda_plain.specs.Deeds.{InChunk, all_in, full_of, AreNumberedObjects, pending_of, ended_of, chunks_of, span_of, Settlement, settlements_of}
use Rattle.coda_plain.specs.Decisions.{Decision, sent_of, decision, verdict_on, nodes_by, decisions_of}
use Rattle.coda_plain.specs.Promises.{IsRefused, IsUnderWay}
use Rattle.coda_shelves.specs.Shelves.{Found}
use Rattle.coda_shelves.specs.Kept.{deeds_in, Decides, IsDecided}

-- Each chunk is decided at most once on the disks of a row.
pub record AreDecidedOnce (f : Found) : Type 0 where
  -- one disk has it once
  pub here : (row server : ℕ) (front middle back : List Decision) (first second : Decision) → decisions_of (f.volumes row server) (f.replicas row server) ≡ front ++ first ∷ (middle ++ second ∷ back)
      → first.client ≡ second.client → first.number ≢ second.number
  -- and no two disks of a row have it
  pub there : (volume row server other : ℕ) (first second : Decision) → Decides f row server volume first → Decides f row other volume second → first.client ≡ second.client → first.number ≡ second.number → server ≡ other

-- A decision on a disk of this server.
pub record IsJust (f : Found) (server volume : ℕ) (d : Decision) : Type 0 where
  -- it is of what its client froze under this number, for this server
  pub frozen : In (record { number = d.number; home = server; span = d.span }) (chunks_of (deeds_in f d.client volume))
  pub span : d.span ≡ span_of (deeds_in f d.client volume) d.number
  -- it met a volume, and the records sent alone decide
  pub volume_before : IsVolume (root_of volume) d.before
  pub sent : decision d.before d.client d.span ≡ replay d.before d.client (sent_of d.span)
  -- where the operations certify in turn, they are applied, and leave what they leave
  pub certified : (nodes : Nodes) → replay d.before d.client d.span ≡ Ok nodes → (verdict_on d ≡ Applied) × (nodes_by d ≡ nodes)
  pub conflict : (refused : ℕ) (why : Reason) → verdict_on d ≡ Conflict refused why → IsRefused d refused why

-- the chunk of a decision was decided in another row too: its volume was made in another turn before its client learned of the first decision
pub record IsDecidedElsewhere (f : Found) (row volume : ℕ) (d : Decision) : Type 0 where
  pub other : ℕ
  pub server : ℕ
  pub by : Decision
  pub there : Decides f other server volume by
  pub client_is : by.client ≡ d.client
  pub number_is : by.number ≡ d.number
  pub differs : other ≢ row

-- The operations of a client on a volume: none is lost, and none is done twice in a row.
pub record AreOperationsKept (f : Found) (client volume : ℕ) : Type 0 where
  -- in order, each is in one chunk that was applied, or was given up, or is pending
  pub ledger : all_in (ended_of (deeds_in f client volume)) ++ pending_of (deeds_in f client volume) ≡ full_of (deeds_in f client volume)
  pub rising : IsRising (full_of (deeds_in f client volume))
  pub steady : IsSteady (pending_of (deeds_in f client volume))
  -- what they create is numbered from 1 on
  pub numbered : AreNumberedObjects volume client (deeds_in f client volume)
  -- what ended in a chunk was applied, and stands on a disk
  pub ended : (number : ℕ) (span : List Record) → In (InChunk number span) (ended_of (deeds_in f client volume))
      → (d : IsDecided f volume client number Applied) × (d.by.span ≡ span)
  -- and what was applied ended in its chunk, or is under way, unless another row has a decision of it
  pub applied : (row server : ℕ) (d : Decision) → Decides f row server volume d → d.client ≡ client → verdict_on d ≡ Applied
      → In (InChunk d.number d.span) (ended_of (deeds_in f client volume)) ⊎ IsUnderWay (deeds_in f client volume) d.number d.span ⊎ IsDecidedElsewhere f row volume d

-- What the histories promise.
pub record ArePromised (f : Found) : Type 0 where
  pub once : AreDecidedOnce f
  pub just : (row server volume : ℕ) (d : Decision) → Decides f row server volume d → IsJust f server volume d
  pub settled : (client volume : ℕ) (s : Settlement) → In s (settlements_of (deeds_in f client volume)) → IsDecided f volume client s.number s.verdict
  pub kept : (client volume : ℕ) → AreOperationsKept f client volume
