-- Versions: what certification asks of them, which an operation leaves, and that applied chunks overwrite nobody.
use Rattle.std.specs.Prelude.{◌≡◌, ◌⊎◌, ℕ, Bool, true, false, ◌||◌, List, ◌∷◌, ◌++◌, Option, Some, None, Ok}
use Rattle.std.specs.FinMap as map
use Rattle.coda_fid.specs.Fid.{same_fid, root_of}
use Rattle.coda_fid.specs.Op.{carried}
use Rattle.coda_fid.specs.declared.fid.Fid.{Fid}
use Rattle.coda_fid.specs.declared.fid.Sid.{Sid}
use Rattle.coda_fid.specs.declared.op.Op.{Op}
use Rattle.coda_fid.specs.declared.op.Op.TheVariants.{Create, Mkdir, Symlink, Store, Setattr, Remove, Rmdir, Rename}
use Rattle.coda_fid.specs.declared.op.Over.{Over}
use Rattle.coda_fid.specs.declared.op.Record.{Record}
use Rattle.coda_tree.specs.Volume.{Nodes, IsVolume}
use Rattle.coda_tree.specs.declared.node.Node.{Node}
use Rattle.coda_certify.specs.Checks.{certify}
use Rattle.coda_certify.specs.Replay.{applied, replay}
use Rattle.coda_certify.specs.declared.verdict.Verdict.TheVariants.{Applied}
use Rattle.coda_cancel.specs.Dropping.{creates, writes}
use Rattle.coda_plain.specs.Histories.{In}
use Rattle.coda_plain.specs.Decisions.{Decision, sent_of, verdict_on}

-- an object is there, and has this version
pub record HasVersion (m : Nodes) (fid : Fid) (version : Sid) : Type 0 where
  pub node : Node
  pub there : map.get m fid ≡ Some node
  pub is : node.sid ≡ version

-- An operation that carries a version of an object is certified only where the object is there and has this version.
abbrev pub StaleOperationsAreRefused : Type 0
StaleOperationsAreRefused = (m : Nodes) (op : Op) (over : Over) → carried op ≡ Some over → certify m op ≡ None
    → HasVersion m over.fid over.pre

-- ---- what an operation leaves

-- the version names the record of the client
pub record NamesRecord (client : ℕ) (rec : Record) (version : Sid) : Type 0 where
  pub client_is : version.client ≡ client
  pub number_is : version.number ≡ rec.number

-- whether an operation creates the object, stores it or sets attributes of it
abbrev pub gives_version : Fid → Op → Bool
gives_version fid op = creates fid op || writes fid op

-- whether an operation names the object as a directory in which it binds or unbinds a name
abbrev pub binds_in : Fid → Op → Bool
binds_in fid (Create dir name it mode owner) = same_fid fid dir
binds_in fid (Mkdir dir name it mode owner) = same_fid fid dir
binds_in fid (Symlink dir name it target mode owner) = same_fid fid dir
binds_in fid (Store it pre content) = false
binds_in fid (Setattr it pre attrs) = false
binds_in fid (Remove dir name it pre) = same_fid fid dir
binds_in fid (Rmdir dir name it pre) = same_fid fid dir
binds_in fid (Rename from_dir from to_dir to it over) = same_fid fid from_dir || same_fid fid to_dir

-- a node has version, time, attributes and mark of another one
pub record IsOtherwiseSame (old new : Node) : Type 0 where
  pub version : new.sid ≡ old.sid
  pub time : new.mtime ≡ old.mtime
  pub mode : new.mode ≡ old.mode
  pub owner : new.owner ≡ old.owner
  pub mark : new.marked ≡ old.marked

-- an object was there with all that it has, but for what it binds
pub record IsFromBefore (m : Nodes) (fid : Fid) (new : Node) (bound : Bool) : Type 0 where
  pub old : Node
  pub there : map.get m fid ≡ Some old
  pub same : IsOtherwiseSame old new
  -- and that too, where the operation doesn't bind or unbind in it
  pub whole : bound ≡ false → new ≡ old

pub record OperationsLeaveVersions : Type 0 where
  -- what an operation creates has its time, and no mark
  pub created : (m : Nodes) (client : ℕ) (rec : Record) (fid : Fid) (node : Node) → creates fid rec.op ≡ true
      → map.get (applied m client rec) fid ≡ Some node → (node.mtime ≡ rec.time) × (node.marked ≡ false)
  -- what it creates or writes has its version
  pub versioned : (m : Nodes) (client : ℕ) (rec : Record) (fid : Fid) (node : Node) → gives_version fid rec.op ≡ true
      → map.get (applied m client rec) fid ≡ Some node → NamesRecord client rec node.sid
  -- and any other object is from before
  pub other : (m : Nodes) (client : ℕ) (rec : Record) (fid : Fid) (node : Node) → gives_version fid rec.op ≡ false
      → map.get (applied m client rec) fid ≡ Some node → IsFromBefore m fid node (binds_in fid rec.op)

-- ---- chunks

-- a record among these gave the object this version
pub record IsGivenBy (client : ℕ) (recs : List Record) (fid : Fid) (version : Sid) : Type 0 where
  pub by : Record
  pub there : In by recs
  pub gives : gives_version fid by.op ≡ true
  pub names : NamesRecord client by version

-- The version that an object has behind records is that from before them, or one of them gave it.
abbrev pub VersionsComeFromSomewhere : Type 0
VersionsComeFromSomewhere = (m before : Nodes) (client : ℕ) (front : List Record) (fid : Fid) (version : Sid)
    → replay m client front ≡ Ok before → HasVersion before fid version
    → HasVersion m fid version ⊎ IsGivenBy client front fid version

-- Where a chunk's records are applied, each object of which one carries a version had that version in the volume before
-- the chunk, or a record before it in the chunk gave it.
abbrev pub AppliedChunksOverwriteNobody : Type 0
AppliedChunksOverwriteNobody =
    (m left : Nodes) (client : ℕ) (front : List Record) (rec : Record) (back : List Record) (over : Over)
    → replay m client (front ++ rec ∷ back) ≡ Ok left → carried rec.op ≡ Some over
    → HasVersion m over.fid over.pre ⊎ IsGivenBy client front over.fid over.pre

-- So it is of what a replica decided and applied, whose nodes were a volume.
abbrev pub AppliedDecisionsOverwriteNobody : Type 0
AppliedDecisionsOverwriteNobody =
    (volume : ℕ) (d : Decision) (front : List Record) (rec : Record) (back : List Record) (over : Over)
    → IsVolume (root_of volume) d.before → verdict_on d ≡ Applied → sent_of d.span ≡ front ++ rec ∷ back → carried rec.op ≡ Some over
    → HasVersion d.before over.fid over.pre ⊎ IsGivenBy d.client front over.fid over.pre
