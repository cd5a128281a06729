-- What the histories of a cell promise whose volumes have several replicas.
use Rattle.std.specs.Prelude.{◌≡◌, ◌≢◌, ◌⊎◌, ℕ, ◌<◌, ◌≤◌, List, [], ◌∷◌, ◌++◌}
use Rattle.std.specs.FinMap as finmap
use Rattle.coda_fid.specs.Fid.{root_of}
use Rattle.coda_fid.specs.declared.fid.Fid.{Fid}
use Rattle.coda_fid.specs.declared.op.Record.{Record}
use Rattle.coda_certify.specs.declared.verdict.Verdict.{Verdict}
use Rattle.coda_certify.specs.declared.verdict.Verdict.TheVariants.{Applied}
use Rattle.coda_tree.specs.Volume.{IsVolume}
use Rattle.coda_plain.specs.Histories.{In, told}
use Rattle.coda_plain.specs.Deeds.{Chunk, chunks_of, Settlement, settlements_of, InChunk, ended_of}
use Rattle.coda_plain.specs.Objects.{Objects, nodes_in}
use Rattle.coda_plain.specs.Decisions.{ReplicaEntry, Resolved, Last, Decision, verdict_on, decision_at, decisions_of}
use Rattle.coda_plain.specs.Decisions.{nodes_of, last_of}
use Rattle.coda_plain.specs.Cell.{Histories}
use Rattle.coda_plain.specs.Sound.{deeds_in, HasFrozen}
use Rattle.coda_plain.specs.Promises.{Decides, AreListed, IsUnderWay, IsApplied, ArePromised}
use Rattle.coda_resolve.specs.Resolution.{Replicas}
use Rattle.coda_resolve.specs.Placement.{IsIn, AreTreesOfOneKind}
use Rattle.coda_lineage.specs.Lineage.{AreAmong}
use Rattle.coda_group.specs.Groups.{holdings, HasLogIfDirectory, WasDecided}

-- ---- decided once, also where decisions were taken over

-- a replica took over the last decisions of clients, somewhere in its history
pub record TookOver (volume : ℕ) (entries : List ReplicaEntry) (lasts : ℕ → Last)
    (before after : List Decision) : Type 0 where
  pub front : List ReplicaEntry
  pub back : List ReplicaEntry
  pub objects : Objects
  pub splits : entries ≡ front ++ Resolved objects lasts ∷ back
  pub decided_before : before ≡ decisions_of volume front
  pub decided_after : after ≡ told (decision_at volume) (front ++ Resolved objects lasts ∷ []) back

-- a replica decides no chunk again that it took over, nor any before it; and it takes over none that is before what
-- it decided
pub record AreTakenOverOnce (h : Histories) (volume server : ℕ) : Type 0 where
  pub later : (lasts : ℕ → Last) (before after : List Decision) (d : Decision)
      → TookOver volume (h.replicas server volume) lasts before after → In d after
      → (lasts d.client).number < d.number
  pub earlier : (lasts : ℕ → Last) (before after : List Decision) (d : Decision)
      → TookOver volume (h.replicas server volume) lasts before after → In d before
      → d.number ≤ (lasts d.client).number

-- the replica of the server for which the client froze the chunk decided it, with its operations and this verdict
pub record IsDecidedAtHome (h : Histories) (volume client number : ℕ) (verdict : Verdict) : Type 0 where
  pub chunk : Chunk
  pub frozen : In chunk (chunks_of (deeds_in h client volume))
  pub number_is : chunk.number ≡ number
  pub by : Decision
  pub there : Decides h chunk.home volume by
  pub client_is : by.client ≡ client
  pub chunk_is : by.number ≡ number
  pub span_is : by.span ≡ chunk.span
  pub verdict_is : verdict_on by ≡ verdict

-- The last decisions that replicas keep, their own and those that they took over.
pub record AreLastsTrue (h : Histories) (volume : ℕ) : Type 0 where
  -- each was made at the home of its chunk
  pub home : (server client : ℕ) → 0 < (last_of volume (h.replicas server volume) client).number
      → IsDecidedAtHome h volume client (last_of volume (h.replicas server volume) client).number
      (last_of volume (h.replicas server volume) client).verdict
  -- at its home a replica keeps what it decided itself
  pub own : (server client : ℕ) (span : List Record) → 0 < (last_of volume (h.replicas server volume) client).number
      → HasFrozen h client volume (last_of volume (h.replicas server volume) client).number server span
      → (d : Decision)
      × (Decides h server volume d
      × ((d.client ≡ client)
      × ((d.number ≡ (last_of volume (h.replicas server volume) client).number)
      × (verdict_on d ≡ (last_of volume (h.replicas server volume) client).verdict))))
  -- and two of one number are one
  pub alike : (server other client : ℕ) → 0 < (last_of volume (h.replicas server volume) client).number
      → (last_of volume (h.replicas server volume) client).number ≡
      (last_of volume (h.replicas other volume) client).number
      → last_of volume (h.replicas server volume) client ≡ last_of volume (h.replicas other volume) client

-- A replica decides a chunk only where each chunk of its client before it was decided, there or at another replica:
-- none is skipped.
abbrev pub IsNoneSkipped : Histories → ℕ → Type 0
IsNoneSkipped h volume = (server : ℕ) (d : Decision) (number : ℕ) → Decides h server volume d → 0 < number
    → number < d.number → WasDecided h volume d.client number

-- ---- each operation

-- The operations of a client on a volume: none is lost, and none is done twice, also where the client learned of
-- replicas that are none of these.
pub record AreKeptHere (h : Histories) (client volume : ℕ) : Type 0 where
  -- in order, each is in one chunk that the client learned was applied, or was given up, or is pending
  pub listed : AreListed h client volume
  -- what ended in a chunk was applied by a replica, or so the client learned elsewhere
  pub ended : (number : ℕ) (span : List Record) → In (InChunk number span) (ended_of (deeds_in h client volume))
      → IsApplied h volume client number span
      ⊎ In (record { number = number; verdict = Applied }) (h.learned client volume)
  -- and what a replica applied ended in its chunk, or is under way
  pub applied : (server : ℕ) (d : Decision) → Decides h server volume d → d.client ≡ client → verdict_on d ≡ Applied
      → In (InChunk d.number d.span) (ended_of (deeds_in h client volume))
      ⊎ IsUnderWay (deeds_in h client volume) d.number d.span

-- ---- the replicas

-- what the replicas at some servers hold
abbrev pub views_in : Histories → ℕ → List ℕ → Replicas
views_in h volume [] = []
views_in h volume (server ∷ servers) = holdings h volume server ∷ views_in h volume servers

-- Each replica is a volume, whose nodes are those that its decisions met and left, with logs exactly at its
-- directories; and any of them are trees of one kind, which a resolution may take.
pub record ArePromisedReplicas (h : Histories) (servers : List ℕ) (volume : ℕ) : Type 0 where
  pub nodes : (server : ℕ) → nodes_of volume (h.replicas server volume) ≡ nodes_in (holdings h volume server)
  pub volumes : (server : ℕ) → IsIn server servers → IsVolume (root_of volume) (nodes_in (holdings h volume server))
  pub rings : (server : ℕ) (f : Fid) → IsIn server servers → HasLogIfDirectory (finmap.get (holdings h volume server) f)
  pub trees : (some : List ℕ) → AreAmong some servers → some ≢ []
      → AreTreesOfOneKind (views_in h volume some) (root_of volume)

-- ---- all of it

-- What the histories promise: all that is promised of a volume with one replica, each chunk decided at most once over
-- all replicas and each decision just; what was taken over isn't decided again; a client settles no verdict but that
-- of its chunk's home, or one that it learned elsewhere; and replicas are volumes whose objects are of one kind.
pub record AreGroupPromised (servers : ℕ → List ℕ) (h : Histories) : Type 0 where
  pub plain : ArePromised h
  pub kept : (client volume : ℕ) → AreKeptHere h client volume
  pub taken_over : (volume server : ℕ) → AreTakenOverOnce h volume server
  pub lasts : (volume : ℕ) → AreLastsTrue h volume
  pub order : (volume : ℕ) → IsNoneSkipped h volume
  pub settled : (client volume : ℕ) (s : Settlement) → In s (settlements_of (deeds_in h client volume))
      → IsDecidedAtHome h volume client s.number s.verdict ⊎ In s (h.learned client volume)
  pub replicas : (volume : ℕ) → ArePromisedReplicas h (servers volume) volume
