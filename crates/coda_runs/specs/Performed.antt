-- That an operation which is answered as done did what the line asked, and nothing else.
use Rattle.std.specs.Prelude.{◌≡◌, ◌≢◌, ◌⊎◌, ℕ, ◌+◌, true, false, List, [], ◌∷◌, ◌++◌, replicate, Option, Some, None}
use Rattle.std.specs.FinMap as map
use Rattle.std.specs.Option.{unwrap_or}
use Rattle.coda_fid.specs.Fid.{root_of}
use Rattle.coda_fid.specs.declared.fid.Fid.{Fid}
use Rattle.coda_fid.specs.declared.fid.Sid.{Sid}
use Rattle.coda_fid.specs.declared.op.Attrs.{Attrs}
use Rattle.coda_fid.specs.declared.op.Record.{Record}
use Rattle.coda_tree.specs.declared.node.Node.{Node}
use Rattle.coda_tree.specs.declared.node.NodeKind.{NodeKind}
use Rattle.coda_tree.specs.declared.node.NodeKind.TheVariants.{File, Link, Dir}
use Rattle.coda_tree.specs.Bindings.{Name}
use Rattle.coda_tree.specs.Volume.{Nodes, child, has, IsDir}
use Rattle.coda_certify.specs.Replay.{applied}
use Rattle.coda_script.specs.declared.line.Content.{Content}
use Rattle.coda_script.specs.declared.line.Content.TheVariants.{Text, Fill}
use Rattle.coda_script.specs.declared.line.Line.TheVariants as line
use Rattle.coda_script.specs.declared.line.Task.{Task}
use Rattle.coda_script.specs.declared.line.Task.TheVariants as task
use Rattle.coda_script.specs.declared.reply.Reply.TheVariants.{Done}
use Rattle.coda_venus.specs.Held.{Parents, held_after_operation}
use Rattle.coda_cell.specs.State.{pending, ClientState, ReplicaState}
use Rattle.coda_shelves.specs.Cells.{Cell, state_of}
use Rattle.coda_shelves.specs.Lines.{is_cut, replica_down, Happens}

-- ---- where paths lead

-- names lead from an object to another by what directories bind, and the last one is held
abbrev pub Leads : Nodes → Fid → List Name → Fid → Type 0
Leads m at [] fid = (at ≡ fid) × (has m at ≡ true)
Leads m at (name ∷ names) fid = (next : Fid) × (child m at name ≡ Some next) × Leads m next names fid

-- a path's last name, and the directory that those before it lead to
pub record End (m : Nodes) (volume : ℕ) (path : List Name) : Type 0 where
  pub front : List Name
  pub last : Name
  pub dir : Fid
  pub is : path ≡ front ++ last ∷ []
  pub leads : Leads m (root_of volume) front dir

-- ---- what is done, by what was held before and after

-- the object has no name that it hadn't
abbrev pub HasNoOther : Nodes → Nodes → Fid → Type 0
HasNoOther m n object = (dir : Fid) (name : Name) → child n dir name ≡ Some object → child m dir name ≡ Some object

-- the object has no name that it hadn't, but this
abbrev pub HasNoOtherThan : Nodes → Nodes → Fid → Fid → Name → Type 0
HasNoOtherThan m n object in_dir new = (dir : Fid) (name : Name) → child n dir name ≡ Some object → (child m dir name ≡ Some object) ⊎ ((dir ≡ in_dir) × (name ≡ new))

-- an operation of a client: the client's number, how many it accepted on the volume by then, and when
pub record Stamp : Type 0 where
  pub client : ℕ
  pub number : ℕ
  pub time : ℕ

-- the version is that which the operation gives
pub record IsVersionOf (by : Stamp) (version : Sid) : Type 0 where
  pub client_is : version.client ≡ by.client
  pub number_is : version.number ≡ by.number

-- a new object of this kind, mode and owner stands under the path's last name, where nothing was bound, with the time and the version of the operation, and no mark
pub record IsNew (by : Stamp) (m n : Nodes) (volume : ℕ) (path : List Name) (kind : NodeKind) (mode owner : ℕ) (object : Fid) : Type 0 where
  pub end : End m volume path
  pub free : child m end.dir end.last ≡ None
  pub fresh : map.get m object ≡ None
  pub bound : child n end.dir end.last ≡ Some object
  pub only : HasNoOtherThan m n object end.dir end.last
  pub node : Node
  pub stands : map.get n object ≡ Some node
  pub kind_is : node.kind ≡ kind
  pub mode_is : node.mode ≡ mode
  pub owner_is : node.owner ≡ owner
  pub mtime_is : node.mtime ≡ by.time
  pub version_is : IsVersionOf by node.sid
  pub unmarked : node.marked ≡ false

-- the path leads to the object, whose names stay
pub record IsAt (m n : Nodes) (volume : ℕ) (path : List Name) (object : Fid) : Type 0 where
  pub leads : Leads m (root_of volume) path object
  pub was : Node
  pub stood : map.get m object ≡ Some was
  pub node : Node
  pub stands : map.get n object ≡ Some node
  pub only : HasNoOther m n object
  pub still : HasNoOther n m object

-- the file that the path leads to has this content, and the time and the version of the operation
pub record IsStored (by : Stamp) (m n : Nodes) (volume : ℕ) (path : List Name) (content : List ℕ) (object : Fid) : Type 0 where
  pub at : IsAt m n volume path object
  pub old : List ℕ
  pub file : at.was.kind ≡ File old
  pub content_is : at.node.kind ≡ File content
  pub mode_is : at.node.mode ≡ at.was.mode
  pub owner_is : at.node.owner ≡ at.was.owner
  pub mtime_is : at.node.mtime ≡ by.time
  pub version_is : IsVersionOf by at.node.sid
  pub mark_is : at.node.marked ≡ at.was.marked

-- what the path leads to has those attributes that were given, and the others as they were, with the version of the operation
pub record IsSet (by : Stamp) (m n : Nodes) (volume : ℕ) (path : List Name) (attrs : Attrs) (object : Fid) : Type 0 where
  pub at : IsAt m n volume path object
  pub kind_is : at.node.kind ≡ at.was.kind
  pub mode_is : at.node.mode ≡ unwrap_or attrs.mode at.was.mode
  pub owner_is : at.node.owner ≡ unwrap_or attrs.owner at.was.owner
  pub mtime_is : at.node.mtime ≡ unwrap_or attrs.mtime at.was.mtime
  pub version_is : IsVersionOf by at.node.sid
  pub mark_is : at.node.marked ≡ at.was.marked

-- the object under the path's last name is gone, and its name is free
pub record IsGone (m n : Nodes) (volume : ℕ) (path : List Name) (MayGo : NodeKind → Type 0) (object : Fid) : Type 0 where
  pub end : End m volume path
  pub bound : child m end.dir end.last ≡ Some object
  pub was : Node
  pub stood : map.get m object ≡ Some was
  pub may : MayGo was.kind
  pub binds_nothing : (name : Name) → child m object name ≡ None
  pub unbound : child n end.dir end.last ≡ None
  pub only : HasNoOther m n object
  pub taken : map.get n object ≡ None

-- an object is as it was, but that a directory may bind other names
pub record IsAsItWas (was node : Node) : Type 0 where
  pub kind : IsDir was.kind ⊎ (node.kind ≡ was.kind)
  pub mode : node.mode ≡ was.mode
  pub owner : node.owner ≡ was.owner
  pub mtime : node.mtime ≡ was.mtime
  pub sid : node.sid ≡ was.sid
  pub marked : node.marked ≡ was.marked

-- what was bound under the old path's last name is bound under the new one's alone, and is as it was; what stood there is gone, and was no directory
pub record IsMoved (m n : Nodes) (volume : ℕ) (from to : List Name) (object : Fid) : Type 0 where
  pub old : End m volume from
  pub new : End m volume to
  pub was : child m old.dir old.last ≡ Some object
  pub left : child n old.dir old.last ≡ None
  pub moved : child n new.dir new.last ≡ Some object
  pub only : HasNoOtherThan m n object new.dir new.last
  pub replaced : (other : Fid) → child m new.dir new.last ≡ Some other → ((name : Name) → child m other name ≡ None) × (map.get n other ≡ None)
  pub as_it_was : (before : Node) → map.get m object ≡ Some before → (node : Node) × (map.get n object ≡ Some node) × IsAsItWas before node

-- ---- what stays

-- the object has a name that the other one had
abbrev pub IsReplaced : Nodes → Nodes → Fid → Fid → Type 0
IsReplaced m n object other = (dir : Fid) × (name : Name) × (child m dir name ≡ Some other) × (child n dir name ≡ Some object)

-- Other objects are there as they were, and bound as they were, but one whose name the object has now, which may be gone.
pub record OthersStay (m n : Nodes) (object : Fid) : Type 0 where
  pub stay : (other : Fid) → other ≢ object → has m other ≡ true → (has n other ≡ true) ⊎ IsReplaced m n object other
  pub bound : (dir other : Fid) (name : Name) → other ≢ object → (has m other ≡ true → has n other ≡ true) → child m dir name ≡ Some other → child n dir name ≡ Some other
  pub were_bound : (dir other : Fid) (name : Name) → other ≢ object → child n dir name ≡ Some other → child m dir name ≡ Some other
  pub were : (other : Fid) (node : Node) → other ≢ object → map.get n other ≡ Some node → (was : Node) × (map.get m other ≡ Some was) × IsAsItWas was node

-- ---- lines

-- the bytes that a line stores
abbrev pub content_of : Content → List ℕ
content_of (Text text) = text
content_of (Fill length byte) = replicate length byte

-- What a line asks of a volume of a client is done with an object. A new file has mode 0644 and a new directory mode 0755 where no other is
-- given, and owner 0 likewise; a link has mode 0777 and owner 0.
abbrev pub DoesAsked : Stamp → Task → ℕ → ℕ → Nodes → Nodes → Fid → Type 0
DoesAsked by (task.Create client volume path mode owner) c v m n object = (client ≡ c) × (volume ≡ v) × IsNew by m n volume path (File []) (unwrap_or mode 420) (unwrap_or owner 0) object
DoesAsked by (task.Mkdir client volume path mode owner) c v m n object = (client ≡ c) × (volume ≡ v) × IsNew by m n volume path (Dir map.empty) (unwrap_or mode 493) (unwrap_or owner 0) object
DoesAsked by (task.Symlink client volume path target) c v m n object = (client ≡ c) × (volume ≡ v) × IsNew by m n volume path (Link target) 511 0 object
DoesAsked by (task.Store client volume path content) c v m n object = (client ≡ c) × (volume ≡ v) × IsStored by m n volume path (content_of content) object
DoesAsked by (task.Setattr client volume path attrs) c v m n object = (client ≡ c) × (volume ≡ v) × IsSet by m n volume path attrs object
DoesAsked by (task.Remove client volume path) c v m n object = (client ≡ c) × (volume ≡ v) × IsGone m n volume path (λ kind. IsDir kind → ⊥) object
DoesAsked by (task.Rmdir client volume path) c v m n object = (client ≡ c) × (volume ≡ v) × IsGone m n volume path IsDir object
DoesAsked by (task.Rename client volume from to) c v m n object = (client ≡ c) × (volume ≡ v) × IsMoved m n volume from to object
DoesAsked by _ c v m n object = ⊥

-- the server that holds a volume can be reached, and has this node
abbrev pub IsServed : (ℕ → Type 0) → (ℕ → Option ReplicaState) → ℕ → Fid → Node → Type 0
IsServed Reached replicas volume fid node = (r : ReplicaState) × (replicas volume ≡ Some r) × Reached r.server × (map.get r.tree.nodes fid ≡ Some node)

-- a client can reach the replica of a volume on a server: the link between them is up, and so is the replica
abbrev pub CanReach : Cell → ℕ → ℕ → ℕ → Type 0
CanReach cell client volume server = (is_cut (cell.links client server) ≡ false) × (replica_down cell server volume ≡ false)

-- A client that held some nodes fetched others of a volume: it holds what it held, and all else as the volume's server has it, which it can reach.
pub record HasFetched (Reached : ℕ → Type 0) (replicas : ℕ → Option ReplicaState) (volume : ℕ) (old new : Nodes) : Type 0 where
  pub keeps : (fid : Fid) (node : Node) → map.get old fid ≡ Some node → map.get new fid ≡ Some node
  pub served : (fid : Fid) (node : Node) → map.get new fid ≡ Some node → (map.get old fid ≡ Some node) ⊎ IsServed Reached replicas volume fid node

-- What a client has of a volume once it performed an operation at a time, by what it had before and fetched on the way. The operation is
-- the last of those that no server applied, and a replay of it leaves what the client holds, but that what was held below an object that went
-- is gone too. What it has of other volumes stays.
pub record IsPerformed (Reached : ℕ → Type 0) (replicas : ℕ → Option ReplicaState) (t : Task) (old new : ClientState) (client volume time number : ℕ) (object : Fid) : Type 0 where
  pub before : Nodes
  pub fetched : HasFetched Reached replicas volume old.held.nodes before
  pub after : Nodes
  pub done : DoesAsked (record { client = old.number; number = number; time = time }) t client volume before after object
  pub others : OthersStay before after object
  pub rec : Record
  pub kept : pending (new.volumes volume) ≡ pending (old.volumes volume) ++ rec ∷ []
  pub elsewhere : (other : ℕ) → other ≢ volume → new.volumes other ≡ old.volumes other
  pub number_is : rec.number ≡ number
  pub time_is : rec.time ≡ time
  pub next : number ≡ (old.volumes volume).operations + 1
  pub replays : after ≡ applied before old.number rec
  -- by these parents it held what went along: each object that it held before keeps its own, and each other parent binds its object
  pub parents : Parents
  pub own : (fid : Fid) → has old.held.nodes fid ≡ true → map.get parents fid ≡ map.get old.held.parents fid
  pub found : (fid p : Fid) → map.get parents fid ≡ Some p → (map.get old.held.parents fid ≡ Some p) ⊎ ((name : Name) × (child before p name ≡ Some fid))
  pub holds : new.held ≡ held_after_operation (record { nodes = before; parents = parents }) old.number rec

-- the client and the volume are those of a line that is answered as done; other clients are as they were
pub record WasPerformed (Reaches : ℕ → ℕ → ℕ → Type 0) (t : Task) (clients behind : ℕ → Option ClientState) (replicas : ℕ → Option ReplicaState) (time number : ℕ) (object : Fid) : Type 0 where
  pub client : ℕ
  pub volume : ℕ
  pub old : ClientState
  pub new : ClientState
  pub was : clients client ≡ Some old
  pub is : behind client ≡ Some new
  pub others : (other : ℕ) → other ≢ client → behind other ≡ clients other
  pub performed : IsPerformed (Reaches client volume) replicas t old new client volume time number object

-- In whatever cell, an operation that is answered as done did what its line asked, left all else as it was, and is kept; and the versions that it gives are of its line's
-- client.
abbrev pub OperationsArePerformed : Type 0
OperationsArePerformed =
    (cell : Cell) (t : Task) (number : ℕ) (object : Fid) (outside : List (List ℕ)) (new : Cell) → Happens cell (line.Task t) (Done number object) outside new
    → (p : WasPerformed (CanReach cell) t (state_of cell).clients (state_of new).clients (state_of cell).replicas cell.clock number object) × (p.old.number ≡ p.client)
