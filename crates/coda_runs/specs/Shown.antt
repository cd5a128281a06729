-- That what a line reads or lists is what stands at its path; and that nothing is shown of an actor that is down.
use Rattle.std.specs.Prelude.{◌≡◌, ◌≢◌, ℕ, List, Option, Some, None, false}
use Rattle.std.specs.FinMap as map
use Rattle.coda_fid.specs.Fid.{root_of}
use Rattle.coda_fid.specs.declared.fid.Fid.{Fid}
use Rattle.coda_tree.specs.declared.node.Node.{Node}
use Rattle.coda_tree.specs.declared.node.NodeKind.{NodeKind}
use Rattle.coda_tree.specs.declared.node.NodeKind.TheVariants.{File, Link, Dir}
use Rattle.coda_tree.specs.Bindings.{Name}
use Rattle.coda_script.specs.declared.line.Line.TheVariants as line
use Rattle.coda_script.specs.declared.line.Task.{Task}
use Rattle.coda_script.specs.declared.line.Task.TheVariants as task
use Rattle.coda_script.specs.declared.reply.Readable.TheVariants.{File as FileOf, Link as LinkTo}
use Rattle.coda_script.specs.declared.reply.Reply.{Reply}
use Rattle.coda_script.specs.declared.reply.Reply.TheVariants.{Read, Listed, ShowVolume, ShowLog}
use Rattle.coda_cell.specs.State.{ClientState, ReplicaState}
use Rattle.coda_shelves.specs.Cells.{Cell, state_of}
use Rattle.coda_shelves.specs.Lines.{Happens, client_down, replica_down}
use Rattle.coda_runs.specs.Performed.{Leads, CanReach, HasFetched}
use Rattle.coda_script.specs.declared.line.Line.{Line}

-- whose path a line shows
abbrev pub Looks : Task → ℕ → ℕ → List Name → Type 0
Looks (task.Read client volume path) c v names = (client ≡ c) × (volume ≡ v) × (path ≡ names)
Looks (task.List client volume path) c v names = (client ≡ c) × (volume ≡ v) × (path ≡ names)
Looks _ c v names = ⊥

-- the file, link or directory of which a reply shows what is in it
abbrev pub shown_by : Reply → Option NodeKind
shown_by (Read fetched (FileOf content)) = Some (File content)
shown_by (Read fetched (LinkTo target)) = Some (Link target)
shown_by (Listed fetched entries) = Some (Dir entries)
shown_by _ = None

-- the client's path leads, over what the client holds and fetched, to an object that is as it is shown; its logs and other clients stay
pub record WasShown (Reaches : ℕ → ℕ → ℕ → Type 0) (t : Task) (clients behind : ℕ → Option ClientState) (replicas : ℕ → Option ReplicaState) (kind : NodeKind) : Type 0 where
  pub client : ℕ
  pub volume : ℕ
  pub path : List Name
  pub looks : Looks t client volume path
  pub old : ClientState
  pub new : ClientState
  pub was : clients client ≡ Some old
  pub is : behind client ≡ Some new
  pub others : (other : ℕ) → other ≢ client → behind other ≡ clients other
  pub logs : new.volumes ≡ old.volumes
  pub fetched : HasFetched (Reaches client volume) replicas volume old.held.nodes new.held.nodes
  pub object : Fid
  pub leads : Leads new.held.nodes (root_of volume) path object
  pub node : Node
  pub stands : map.get new.held.nodes object ≡ Some node
  pub kind_is : node.kind ≡ kind

-- In whatever cell, what a reply shows of a file, a link or a directory is in the object that the line's path leads to.
abbrev pub WhatIsShownIsThere : Type 0
WhatIsShownIsThere =
    (cell : Cell) (t : Task) (reply : Reply) (outside : List (List ℕ)) (new : Cell) (kind : NodeKind) → Happens cell (line.Task t) reply outside new → shown_by reply ≡ Some kind
    → WasShown (CanReach cell) t (state_of cell).clients (state_of new).clients (state_of cell).replicas kind

-- ---- who is shown

-- where the reply shows a volume or a log, its actor is up
abbrev pub CanShow : Cell → Reply → Type 0
CanShow cell (ShowVolume server volume) = replica_down cell server volume ≡ false
CanShow cell (ShowLog client volume) = (client_down cell client ≡ false) × ((c : ClientState) × ((state_of cell).clients client ≡ Some c))
CanShow cell reply = Unit {0}

-- Nothing is shown of an actor that is down.
abbrev pub WhatIsShownIsUp : Type 0
WhatIsShownIsUp = (old new : Cell) (said : Line) (reply : Reply) (outside : List (List ℕ)) → Happens old said reply outside new → CanShow new reply
