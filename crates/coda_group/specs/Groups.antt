-- The replicas of a volume in the histories of a cell, as a group.
use Rattle.std.specs.Prelude.{◌≡◌, ◌≢◌, ℕ, ◌+◌, ◌<◌, Bool, true, ◌⊎◌, Option, Some, None, is_some, List, [], ◌∷◌}
use Rattle.std.specs.FinMap as finmap
use Rattle.coda_fid.specs.Fid.{root_of}
use Rattle.coda_fid.specs.declared.fid.Fid.{Fid}
use Rattle.coda_fid.specs.declared.op.Record.{Record}
use Rattle.coda_reslog.specs.declared.change.Held.{Held}
use Rattle.coda_certify.specs.declared.verdict.Verdict.{Verdict}
use Rattle.coda_certify.specs.declared.verdict.Verdict.TheVariants.{Applied}
use Rattle.coda_cancel.specs.Dropping.{creates}
use Rattle.coda_plain.specs.Histories.{In}
use Rattle.coda_plain.specs.Deeds.{Deed, Cut, course_of, settlements_of, created_by, full_of}
use Rattle.coda_plain.specs.Objects.{Objects}
use Rattle.coda_plain.specs.Decisions.{Resolved, Last, Decision, verdict_on}
use Rattle.coda_plain.specs.Cell.{Letter, ChunkSent, Histories}
use Rattle.coda_plain.specs.Sound.{deeds_in, IsDecided}
use Rattle.coda_plain.specs.Promises.{Decides}
use Rattle.coda_resolve.specs.Settled.{is_dir, HasKind}
use Rattle.coda_resolve.specs.Resolution.{IsTreeView, has_in}
use Rattle.coda_resolve.specs.Placement.{IsIn}
use Rattle.coda_group.specs.Holdings.{replica_objects}

-- what the replicas of a volume hold, by server
abbrev pub holdings : Histories → ℕ → ℕ → Objects
holdings h volume server = replica_objects server volume (h.replicas server volume)

-- a chunk that was applied at a replica of the volume made the object
pub record IsCreatedByChunk (h : Histories) (volume : ℕ) (f : Fid) : Type 0 where
  pub server : ℕ
  pub by : Decision
  pub there : Decides h server volume by
  pub applied : verdict_on by ≡ Applied
  pub rec : Record
  pub in_span : In rec by.span
  pub creates_it : creates f rec.op ≡ true

-- a resolution log stands exactly at a directory
abbrev pub HasLogIfDirectory : Option Held → Type 0
HasLogIfDirectory None = Unit {0}
HasLogIfDirectory (Some held) = is_some held.ring ≡ is_dir held.node.kind

-- What a replica of a volume holds is a tree, each object in it of the kind that its fid has; a resolution log stands
-- exactly at each directory; and all that it holds is the root, or an applied chunk made it.
pub record IsReplica (h : Histories) (volume : ℕ) (kind : Fid → Bool) (objects : Objects) : Type 0 where
  pub tree : IsTreeView (root_of volume) objects
  pub kinds : (f : Fid) → HasKind (kind f) (finmap.get objects f)
  pub rings : (f : Fid) → HasLogIfDirectory (finmap.get objects f)
  pub known : (f : Fid) → has_in objects f ≡ true → (f ≡ root_of volume) ⊎ IsCreatedByChunk h volume f

-- The replicas of a volume are so, by one kind for each fid, directory or not; and the root is a directory.
pub record IsOneGroup (h : Histories) (servers : List ℕ) (volume : ℕ) : Type 0 where
  pub kind : Fid → Bool
  pub top : kind (root_of volume) ≡ true
  pub each : (server : ℕ) → IsIn server servers → IsReplica h volume kind (holdings h volume server)

-- the object of this number that a client makes on a volume
pub record IsObjectNumbered (volume client number : ℕ) (f : Fid) : Type 0 where
  pub here : f.volume ≡ volume
  pub own : f.vnode ≡ client
  pub some : client ≢ 0
  pub number_is : f.uniq ≡ number

-- what the operations create is numbered by its client, one behind the other, after so many
abbrev pub AreNumberedFrom : ℕ → ℕ → ℕ → List Record → Type 0
AreNumberedFrom volume client before [] = Unit {0}
AreNumberedFrom volume client before (rec ∷ recs) =
    ((f : Fid) → creates f rec.op ≡ true → IsObjectNumbered volume client (before + 1) f)
    × AreNumberedFrom volume client (before + created_by rec.op) recs

-- the chunk of this number is frozen now
abbrev pub IsFrozenNow : List Deed → ℕ → Type 0
IsFrozenNow deeds number = ((cut : Cut) × ((course_of deeds).cut ≡ Some cut)) × (number ≡ (course_of deeds).chunks)

-- some replica of the volume decided the chunk
abbrev pub WasDecided : Histories → ℕ → ℕ → ℕ → Type 0
WasDecided h volume client number = (verdict : Verdict) × IsDecided h.replicas volume client number verdict

-- Each client numbers what it creates on a volume; it learned of no chunk another verdict than a replica gave that
-- decided it; a chunk that was sent is frozen or was decided; each last decision that a replica took over is that of
-- a replica; and the replicas of each volume are one group.
pub record DoGroupsStand (servers : ℕ → List ℕ) (h : Histories) (pool : ℕ → Option Letter) : Type 0 where
  pub numbered : (client volume : ℕ) → AreNumberedFrom volume client 0 (full_of (deeds_in h client volume))
  pub truths : (server volume : ℕ) (d : Decision) (verdict : Verdict) → Decides h server volume d
      → In (record { number = d.number; verdict = verdict }) (settlements_of (deeds_in h d.client volume))
      → verdict ≡ verdict_on d
  pub sent : (message client server volume number : ℕ) → pool message ≡ Some (ChunkSent client server volume number)
      → IsFrozenNow (deeds_in h client volume) number ⊎ WasDecided h volume client number
  pub taken : (server volume client : ℕ) (objects : Objects) (lasts : ℕ → Last)
      → In (Resolved objects lasts) (h.replicas server volume) → 0 < (lasts client).number
      → IsDecided h.replicas volume client (lasts client).number (lasts client).verdict
  pub groups : (volume : ℕ) → IsOneGroup h (servers volume) volume
