-- That a refusal of an operation, a read or a listing has its cause, in the words of a file system; and that what is missed can't be fetched.
use Rattle.std.specs.Prelude.{◌≡◌, ◌≢◌, ◌⊎◌, ◌<◌, ◌≤◌, ℕ, true, false, length, List, [], ◌∷◌, ◌++◌, Option, Some, None}
use Rattle.std.specs.FinMap as map
use Rattle.coda_fid.specs.Fid.{root_of}
use Rattle.coda_fid.specs.declared.fid.Fid.{Fid}
use Rattle.coda_fid.specs.declared.op.Record.{Record}
use Rattle.coda_tree.specs.declared.node.Node.{Node}
use Rattle.coda_tree.specs.declared.node.NodeKind.{NodeKind}
use Rattle.coda_tree.specs.declared.node.NodeKind.TheVariants.{File, Link, Dir}
use Rattle.coda_tree.specs.Bindings.{Name}
use Rattle.coda_tree.specs.Volume.{Nodes, bindings, child, has, IsDir, IsDirAt}
use Rattle.coda_cancel.specs.Cancel.{fold}
use Rattle.coda_cancel.specs.Weights.{total_weight}
use Rattle.coda_script.specs.declared.line.Line.TheVariants as line
use Rattle.coda_script.specs.declared.line.Task.{Task}
use Rattle.coda_script.specs.declared.line.Task.TheVariants as task
use Rattle.coda_script.specs.declared.reply.Reply.{Reply}
use Rattle.coda_script.specs.declared.reply.Reply.TheVariants.{Done}
use Rattle.coda_cell.specs.Accepting.{sight_of}
use Rattle.coda_venus.specs.Accepting.{Sight, next_fid}
use Rattle.coda_venus.specs.Held.{is_below, some_below}
use Rattle.coda_cell.specs.State.{ClientVolume, ClientState, Event, ReplicaState}
use Rattle.coda_cell.specs.Refusing.{refusal}
use Rattle.coda_cell.specs.Steps.{first_missing, on_volume, Does}
use Rattle.coda_cell.specs.Refused.{Refused, Miss}
use Rattle.coda_cell.specs.Refused as refused
use Rattle.coda_plain.specs.Cell.{ClientEntry}
use Rattle.coda_plain.specs.Moves.{AtClient}
use Rattle.coda_shelves.specs.Cells.{Cell, is_up, state_of, after_all}
use Rattle.coda_shelves.specs.Lines.{meets, Lacks, Stop, Happens, client_down, refused_down, refused_full, refused_fault}
use Rattle.coda_runs.specs.Performed.{Leads, End, content_of, CanReach}
use Rattle.coda_runs.specs.Shown.{shown_by}

-- ---- on the way

-- names lead from an object to another by what directories bind; the other one may not be held
abbrev pub Reaches : Nodes → Fid → List Name → Fid → Type 0
Reaches m at [] fid = at ≡ fid
Reaches m at (name ∷ names) fid = (next : Fid) × (child m at name ≡ Some next) × Reaches m next names fid

-- an object that is met on the way along names, and the names that follow
pub record Way (m : Nodes) (at : Fid) (names : List Name) : Type 0 where
  pub front : List Name
  pub rest : List Name
  pub object : Fid
  pub is : names ≡ front ++ rest
  pub reaches : Reaches m at front object

-- an object that is met isn't held
pub record MeetsUnheld (m : Nodes) (at : Fid) (names : List Name) (fid : Fid) : Type 0 where
  pub way : Way m at names
  pub object : way.object ≡ fid
  pub unheld : map.get m fid ≡ None

-- an object that is met is no directory, and a name follows
pub record MeetsNoDir (m : Nodes) (at : Fid) (names : List Name) : Type 0 where
  pub way : Way m at names
  pub name : Name
  pub rest : List Name
  pub follows : way.rest ≡ name ∷ rest
  pub node : Node
  pub stands : map.get m way.object ≡ Some node
  pub no_dir : IsDir node.kind → ⊥

-- a directory that is met binds nothing at the name that follows
pub record MeetsNothing (m : Nodes) (at : Fid) (names : List Name) : Type 0 where
  pub way : Way m at names
  pub name : Name
  pub rest : List Name
  pub follows : way.rest ≡ name ∷ rest
  pub dir : IsDirAt m way.object
  pub free : child m way.object name ≡ None

-- why names lead nowhere
pub data OnTheWay (m : Nodes) (at : Fid) (names : List Name) (why : Refused) : Type 0 where
  NotBound : why ≡ refused.NotFound → MeetsNothing m at names → OnTheWay m at names why
  NoDirectory : why ≡ refused.NotDir → MeetsNoDir m at names → OnTheWay m at names why
  NotHeld : (fid : Fid) → why ≡ refused.Miss fid → MeetsUnheld m at names fid → OnTheWay m at names why

-- the same of the names before the last one
pub record BeforeLast (m : Nodes) (volume : ℕ) (path : List Name) (why : Refused) : Type 0 where
  pub front : List Name
  pub last : Name
  pub is : path ≡ front ++ last ∷ []
  pub way : OnTheWay m (root_of volume) front why

-- an object of such a kind stands at the path
pub record StandsAs (m : Nodes) (volume : ℕ) (path : List Name) (Kindly : NodeKind → Type 0) : Type 0 where
  pub object : Fid
  pub leads : Leads m (root_of volume) path object
  pub node : Node
  pub stands : map.get m object ≡ Some node
  pub kindly : Kindly node.kind

abbrev pub IsNoDir : NodeKind → Type 0
IsNoDir kind = IsDir kind → ⊥

abbrev pub IsLink : NodeKind → Type 0
IsLink (File content) = ⊥
IsLink (Link target) = Unit {0}
IsLink (Dir entries) = ⊥

-- ---- each kind of operation

-- the path's last name is bound
pub record IsBound (m : Nodes) (volume : ℕ) (path : List Name) : Type 0 where
  pub end : End m volume path
  pub other : Fid
  pub bound : child m end.dir end.last ≡ Some other

-- why there is no new object: its parent isn't found or is no directory; the path is the root's, or bound, or the object that it would be is
-- held; or the client created as many as it may
pub data CreationCause (s : Sight) (volume : ℕ) (path : List Name) (why : Refused) : Type 0 where
  NoParent : BeforeLast s.held.nodes volume path why → CreationCause s volume path why
  ParentIsNoDir : why ≡ refused.NotDir → MeetsNoDir s.held.nodes (root_of volume) path → CreationCause s volume path why
  RootIsThere : why ≡ refused.Exists → path ≡ [] → CreationCause s volume path why
  NameIsBound : why ≡ refused.Exists → IsBound s.held.nodes volume path → CreationCause s volume path why
  ObjectIsHeld : why ≡ refused.Exists → has s.held.nodes (next_fid s volume) ≡ true → CreationCause s volume path why
  NoneIsLeft : why ≡ refused.JournalFull → 4294967295 ≤ s.creations → CreationCause s volume path why
  RootIsNotHeld : why ≡ refused.Miss (root_of volume) → path ≡ [] → map.get s.held.nodes (root_of volume) ≡ None → CreationCause s volume path why

-- why nothing is stored: the path leads nowhere, or a directory or a link stands there
pub data StoreCause (s : Sight) (volume : ℕ) (path : List Name) (why : Refused) : Type 0 where
  NoFile : OnTheWay s.held.nodes (root_of volume) path why → StoreCause s volume path why
  FileIsDir : why ≡ refused.IsDir → StandsAs s.held.nodes volume path IsDir → StoreCause s volume path why
  FileIsLink : why ≡ refused.NotFile → StandsAs s.held.nodes volume path IsLink → StoreCause s volume path why

-- why nothing is removed: the path leads nowhere or is the root's, or a directory stands there
pub data RemoveCause (s : Sight) (volume : ℕ) (path : List Name) (why : Refused) : Type 0 where
  NoObject : OnTheWay s.held.nodes (root_of volume) path why → RemoveCause s volume path why
  ObjectIsRoot : why ≡ refused.IsDir → path ≡ [] → RemoveCause s volume path why
  ObjectIsDir : why ≡ refused.IsDir → StandsAs s.held.nodes volume path IsDir → RemoveCause s volume path why

-- what stands there binds something, or an object is held below it that the log mentions
pub record IsInUse (s : Sight) (volume : ℕ) (path : List Name) : Type 0 where
  pub object : Fid
  pub leads : Leads s.held.nodes (root_of volume) path object
  pub in_use : ((node : Node) × (map.get s.held.nodes object ≡ Some node) × (map.len (bindings node.kind) ≢ 0)) ⊎ (some_below s.held s.is_dirty object ≡ true)

-- why no directory is removed: the path leads nowhere or is the root's, or what stands there is no directory or is in use
pub data RmdirCause (s : Sight) (volume : ℕ) (path : List Name) (why : Refused) : Type 0 where
  NoDir : OnTheWay s.held.nodes (root_of volume) path why → RmdirCause s volume path why
  DirIsRoot : why ≡ refused.Loop → path ≡ [] → RmdirCause s volume path why
  DirIsNone : why ≡ refused.NotDir → StandsAs s.held.nodes volume path IsNoDir → RmdirCause s volume path why
  DirIsInUse : why ≡ refused.NotEmpty → IsInUse s volume path → RmdirCause s volume path why

-- an object would be renamed to a name of something else, where one of both is a directory, or to its own
pub record IsTaken (m : Nodes) (volume : ℕ) (from to : List Name) : Type 0 where
  pub object : Fid
  pub leads : Leads m (root_of volume) from object
  pub end : End m volume to
  pub other : Fid
  pub bound : child m end.dir end.last ≡ Some other
  pub apart : (other ≡ object) ⊎ IsDirAt m object ⊎ IsDirAt m other

-- the new directory is the object or is held below it
pub record GoesBelow (s : Sight) (volume : ℕ) (from to : List Name) : Type 0 where
  pub object : Fid
  pub leads : Leads s.held.nodes (root_of volume) from object
  pub end : End s.held.nodes volume to
  pub below : is_below s.held.parents end.dir object ≡ true

-- why the directory of a new name isn't there, or what stands at the name isn't held
pub data PlaceCause (m : Nodes) (volume : ℕ) (to : List Name) (why : Refused) : Type 0 where
  NoPlace : BeforeLast m volume to why → PlaceCause m volume to why
  PlaceIsNoDir : why ≡ refused.NotDir → MeetsNoDir m (root_of volume) to → PlaceCause m volume to why
  OtherIsNotHeld : (fid : Fid) → why ≡ refused.Miss fid → MeetsUnheld m (root_of volume) to fid → PlaceCause m volume to why

-- why nothing is renamed: the old path leads nowhere, the new place isn't found, the new name is the root's or is taken, what is to be renamed
-- is the root, or a directory would come below itself
pub data RenameCause (s : Sight) (volume : ℕ) (from to : List Name) (why : Refused) : Type 0 where
  NoOld : OnTheWay s.held.nodes (root_of volume) from why → RenameCause s volume from to why
  NoNew : PlaceCause s.held.nodes volume to why → RenameCause s volume from to why
  NewIsRoot : why ≡ refused.Exists → to ≡ [] → RenameCause s volume from to why
  NewIsTaken : why ≡ refused.Exists → IsTaken s.held.nodes volume from to → RenameCause s volume from to why
  OldIsRoot : why ≡ refused.Loop → from ≡ [] → RenameCause s volume from to why
  NewIsBelow : why ≡ refused.Loop → GoesBelow s volume from to → RenameCause s volume from to why

-- ---- lines

-- the log would have more than 4,096 records with one more operation, or weigh more than 16 MiB
abbrev pub IsLogFull : ClientVolume → Type 0
IsLogFull v = (rec : Record) × ((4096 < length (fold v.front ++ fold (v.back ++ rec ∷ []))) ⊎ (16777216 < total_weight (fold v.front ++ fold (v.back ++ rec ∷ []))))

-- why an operation with no other cause is refused: the log is full, or the client accepted as many operations as it may
pub data IsFull (v : ClientVolume) (why : Refused) : Type 0 where
  LogIsFull : why ≡ refused.LogFull → IsLogFull v → IsFull v why
  JournalIsFull : why ≡ refused.JournalFull → 4294967295 ≤ v.operations → IsFull v why

-- Why a line is refused by a client, by what it has of the volume behind the line; what it fetched on the way stays.
abbrev pub Cause : Task → (ℕ → Option ClientState) → Refused → Type 0
Cause (task.Create client volume path mode owner) clients why = (c : ClientState) × (clients client ≡ Some c) × (CreationCause (sight_of c volume) volume path why ⊎ IsFull (c.volumes volume) why)
Cause (task.Mkdir client volume path mode owner) clients why = (c : ClientState) × (clients client ≡ Some c) × (CreationCause (sight_of c volume) volume path why ⊎ IsFull (c.volumes volume) why)
Cause (task.Symlink client volume path target) clients why = (c : ClientState) × (clients client ≡ Some c) × (CreationCause (sight_of c volume) volume path why ⊎ IsFull (c.volumes volume) why)
Cause (task.Store client volume path content) clients why =
    (c : ClientState) × (clients client ≡ Some c) × (StoreCause (sight_of c volume) volume path why ⊎ IsFull (c.volumes volume) why ⊎ ((why ≡ refused.TooBig (length (content_of content))) × (1048576 < length (content_of content))))
Cause (task.Setattr client volume path attrs) clients why = (c : ClientState) × (clients client ≡ Some c) × (OnTheWay c.held.nodes (root_of volume) path why ⊎ IsFull (c.volumes volume) why)
Cause (task.Remove client volume path) clients why = (c : ClientState) × (clients client ≡ Some c) × (RemoveCause (sight_of c volume) volume path why ⊎ IsFull (c.volumes volume) why)
Cause (task.Rmdir client volume path) clients why = (c : ClientState) × (clients client ≡ Some c) × (RmdirCause (sight_of c volume) volume path why ⊎ IsFull (c.volumes volume) why)
Cause (task.Rename client volume from to) clients why = (c : ClientState) × (clients client ≡ Some c) × (RenameCause (sight_of c volume) volume from to why ⊎ IsFull (c.volumes volume) why)
Cause (task.Read client volume path) clients why = (c : ClientState) × (clients client ≡ Some c) × (OnTheWay c.held.nodes (root_of volume) path why ⊎ ((why ≡ refused.IsDir) × StandsAs c.held.nodes volume path IsDir))
Cause (task.List client volume path) clients why = (c : ClientState) × (clients client ≡ Some c) × (OnTheWay c.held.nodes (root_of volume) path why ⊎ ((why ≡ refused.NotDir) × StandsAs c.held.nodes volume path IsNoDir))
Cause (task.Drain client volume server window) clients why = Unit {0}
Cause (task.Hardlink client volume from to) clients why = Unit {0}
Cause (task.Refresh client volume server) clients why = Unit {0}
Cause (task.Giveup client volume) clients why = Unit {0}

-- the client and the volume that a line names in this order
abbrev pub named_by : Task → Option (ℕ × ℕ)
named_by (task.Create client volume path mode owner) = Some (client, volume)
named_by (task.Mkdir client volume path mode owner) = Some (client, volume)
named_by (task.Symlink client volume path target) = Some (client, volume)
named_by (task.Store client volume path content) = Some (client, volume)
named_by (task.Setattr client volume path attrs) = Some (client, volume)
named_by (task.Remove client volume path) = Some (client, volume)
named_by (task.Rmdir client volume path) = Some (client, volume)
named_by (task.Rename client volume from to) = Some (client, volume)
named_by (task.Read client volume path) = Some (client, volume)
named_by (task.List client volume path) = Some (client, volume)
named_by _ = None

-- A line that names a client and a volume is answered: one of them isn't there; or it is done, or shows something; or it is refused, and the
-- cause of that holds.
abbrev pub IsAnswered : Task → ℕ → ℕ → Option Refused → (ℕ → Option ClientState) → Reply → Type 0
IsAnswered t client volume missing clients reply =
    ((why : Refused) × (missing ≡ Some why) × (reply ≡ refusal why)) ⊎ ((number : ℕ) × (object : Fid) × (reply ≡ Done number object)) ⊎ ((kind : NodeKind) × (shown_by reply ≡ Some kind))
    ⊎ ((why : Refused) × (reply ≡ refusal why) × Cause t clients why)

-- The entry is the next one of a task's client: of all that the task does where disks have room, what comes before the entry happened, and left
-- this cell.
pub record IsNextEntry (old mid : Cell) (t : Task) (client : ℕ) (entry : ClientEntry) : Type 0 where
  pub own : Reply
  pub events : List Event
  pub does : Does (meets old (line.Task t)) (line.Task t) own events
  pub stop : Stop events
  pub next : stop.next ≡ AtClient client entry
  pub behind : mid ≡ after_all old stop.done

-- Why a line is refused for the disk of its client: the client is down, and stays as it was; or its journal has no room for the next entry; or the
-- append of that failed, and the client is down from there on.
pub data DiskCause (old new : Cell) (t : Task) (client : ℕ) (reply : Reply) : Type 0 where
  IsDown : reply ≡ refused_down → client_down old client ≡ true → new ≡ old → DiskCause old new t client reply
  HasNoRoom : (entry : ClientEntry) → reply ≡ refused_full → IsNextEntry old new t client entry → Lacks new (AtClient client entry)
      → DiskCause old new t client reply
  HasFailed : (entry : ClientEntry) (mid : Cell) → reply ≡ refused_fault → IsNextEntry old mid t client entry
      → (new.clients client).disk.failed ≡ Some entry → is_up (new.clients client).life ≡ false → DiskCause old new t client reply

-- In whatever cell, an operation, a read or a listing is refused only for a cause that holds.
abbrev pub RefusalsHaveCauses : Type 0
RefusalsHaveCauses =
    (cell : Cell) (t : Task) (reply : Reply) (outside : List (List ℕ)) (new : Cell) (client volume : ℕ) → Happens cell (line.Task t) reply outside new → named_by t ≡ Some (client, volume)
    → IsAnswered t client volume (first_missing (on_volume (state_of cell) client volume)) (state_of new).clients reply ⊎ DiskCause cell new t client reply

-- ---- what is missed

-- In whatever cell, where an operation, a read or a listing of a client is refused since it misses an object of a volume, the client can't reach the
-- volume's server, or that doesn't have the object.
abbrev pub MissesAreUnreachable : Type 0
MissesAreUnreachable =
    (cell : Cell) (t : Task) (client volume : ℕ) (fid : Fid) (outside : List (List ℕ)) (new : Cell) → named_by t ≡ Some (client, volume) → Happens cell (line.Task t) (refusal (Miss fid)) outside new
    → (r : ReplicaState) → (state_of cell).replicas volume ≡ Some r → CanReach cell client volume r.server → map.get r.tree.nodes fid ≡ None
