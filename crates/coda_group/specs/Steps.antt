-- What may happen in a cell whose volumes have several replicas: one entry or letter at a time, or a resolution of
-- replicas.
use Rattle.std.specs.Prelude.{◌≡◌, ℕ, ◌+◌, ◌≤◌, ◌↔◌, Bool, true, Option, Some, None, List, [], ◌∷◌}
use Rattle.coda_fid.specs.Fid.{root_of}
use Rattle.coda_fid.specs.declared.fid.Fid.{Fid}
use Rattle.coda_cancel.specs.Dropping.{creates}
use Rattle.coda_plain.specs.Deeds.{Deed, Operated, Froze, Settled, Gaveup, full_of, created_in}
use Rattle.coda_plain.specs.Objects.{Objects}
use Rattle.coda_plain.specs.Decisions.{ReplicaEntry, Decided, Resolved, Last, last_of}
use Rattle.coda_plain.specs.Cell.{Fetched, Did, Dropping, PlainCell}
use Rattle.coda_plain.specs.Moves.{Append, AtClient, AtReplica, Move, Does, Fails, Posts, Loses, Crashes, Recovers}
use Rattle.coda_plain.specs.Moves.{after, done_on, May}
use Rattle.coda_resolve.specs.Resolution.{Replicas, copies_at, child_in}
use Rattle.coda_resolve.specs.Placement.{IsIn}
use Rattle.coda_resolve.specs.Trees.{IsInstalled}
use Rattle.coda_lineage.specs.Repairs.{LeadsAlike, IsRepairedAt}
use Rattle.coda_lineage.specs.Lineage.{AreAmong}
use Rattle.coda_tree.specs.Bindings.{Name}
use Rattle.coda_tree.specs.Tree.{IsBelow}
use Rattle.coda_group.specs.Holdings.{replica_objects}
use Rattle.coda_group.specs.Groups.{IsObjectNumbered}

-- ---- what replicas hold and keep now

-- the history that stands on the disk of a server's replica of a volume
abbrev pub history_at : PlainCell → ℕ → ℕ → List ReplicaEntry
history_at cell volume server = (cell.replicas server volume).history

-- what that replica holds
abbrev pub objects_at : PlainCell → ℕ → ℕ → Objects
objects_at cell volume server = replica_objects server volume (history_at cell volume server)

-- what the replicas at some servers hold
abbrev pub views_at : PlainCell → ℕ → List ℕ → Replicas
views_at cell volume [] = []
views_at cell volume (server ∷ servers) = objects_at cell volume server ∷ views_at cell volume servers

-- the last decision of a client that it keeps
abbrev pub last_at : PlainCell → ℕ → ℕ → ℕ → Last
last_at cell volume server client = last_of volume (history_at cell volume server) client

-- ---- a resolution

-- the last decisions of clients, joined: each is one that some of the replicas keeps, and none of them keeps a later
-- one
pub record AreJoined (cell : PlainCell) (volume : ℕ) (some : List ℕ) (lasts : ℕ → Last) : Type 0 where
  pub from : (client : ℕ) → (server : ℕ) × (IsIn server some × (lasts client ≡ last_at cell volume server client))
  pub greatest : (client server : ℕ) → IsIn server some
      → (last_at cell volume server client).number ≤ (lasts client).number

-- what is to be left at a server
pub record Install : Type 0 where
  pub server : ℕ
  pub objects : Objects

-- the entry that it is, with the last decisions that the server's replica then keeps
abbrev pub install_of : ℕ → (ℕ → ℕ → Last) → Install → Append
install_of volume lasts install = AtReplica install.server volume (Resolved install.objects (lasts install.server))

-- It is installed at one of some replicas, to which nothing happened since, and is what may be left there.
pub record MayInstall (Left : ℕ → Objects → Type 0) (start cell : PlainCell) (volume : ℕ) (some : List ℕ)
    (install : Install) : Type 0 where
  pub among : IsIn install.server some
  pub untouched : history_at cell volume install.server ≡ history_at start volume install.server
  pub left : Left install.server install.objects

-- each may be installed in turn
abbrev pub MayInstallAll : (ℕ → Objects → Type 0) → PlainCell → ℕ → List ℕ → (ℕ → ℕ → Last) → PlainCell → List Install
    → Option Install → Type 0
MayInstallAll Left start volume some lasts cell [] None = Unit {0}
MayInstallAll Left start volume some lasts cell [] (Some failing) = MayInstall Left start cell volume some failing
MayInstallAll Left start volume some lasts cell (install ∷ installs) failing =
    MayInstall Left start cell volume some install
    × MayInstallAll Left start volume some lasts (after cell (Does (install_of volume lasts install))) installs
    failing

-- one of the installs is at the server
abbrev pub HasInstall : List Install → ℕ → Type 0
HasInstall installs server = (install : Install) × (IsIn install installs × (install.server ≡ server))

-- what a resolution leaves at a server
abbrev pub IsResolution : PlainCell → ℕ → List ℕ → ℕ → Objects → Type 0
IsResolution cell volume some server objects =
    IsInstalled (views_at cell volume some) (root_of volume) (objects_at cell volume server) objects

-- ---- a repair

-- The same names lead to an object at each of some replicas; it and all that stands below it at one of them, the
-- source, are to be repaired.
pub record IsRepair (cell : PlainCell) (volume source : ℕ) (names : List Name) (some : List ℕ) : Type 0 where
  pub top : Fid
  pub leads : (server : ℕ) → IsIn server some
      → LeadsAlike (objects_at cell volume source) (objects_at cell volume server) (root_of volume) names top
  pub subtree : Fid → Bool
  pub below : (f : Fid) → (subtree f ≡ true) ↔ IsBelow (child_in (objects_at cell volume source)) top f

-- what the repair leaves at a server
abbrev pub IsRepairOf : (cell : PlainCell) (volume source : ℕ) (names : List Name) (some : List ℕ)
    → IsRepair cell volume source names some → ℕ → Objects → Type 0
IsRepairOf cell volume source names some repair server objects =
    IsRepairedAt repair.subtree repair.top source (copies_at (views_at cell volume some))
    (objects_at cell volume source) (objects_at cell volume server) objects

-- ---- steps

-- what happens
pub data GroupStep : Type 0 where
  -- a move
  Moves : (move : Move) → GroupStep
  -- the replicas of a volume at some servers are resolved, and what that leaves is installed at these in turn; at the
  -- last one its append may fail
  Resolves : (volume : ℕ) (some : List ℕ) (lasts : ℕ → Last) (installs : List Install) (failing : Option Install)
      → GroupStep
  -- an object is repaired at some servers' replicas of a volume, as one of them has it, and what that leaves is
  -- installed at these in turn; at the last one its append may fail
  Repairs : (volume source : ℕ) (names : List Name) (some : List ℕ) (lasts : ℕ → ℕ → Last) (installs : List Install)
      (failing : Option Install) → GroupStep

-- the move of an install at which the append fails, where there is one
abbrev pub failing_moves : ℕ → (ℕ → ℕ → Last) → Option Install → List Move
failing_moves volume lasts None = []
failing_moves volume lasts (Some install) = Fails (install_of volume lasts install) ∷ []

-- the moves of installs in turn, and of one at which the append fails
abbrev pub install_moves : ℕ → (ℕ → ℕ → Last) → List Install → Option Install → List Move
install_moves volume lasts [] failing = failing_moves volume lasts failing
install_moves volume lasts (install ∷ installs) failing =
    Does (install_of volume lasts install) ∷ install_moves volume lasts installs failing

-- the moves that a step is made of
abbrev pub moves_of_step : GroupStep → List Move
moves_of_step (Moves move) = move ∷ []
moves_of_step (Resolves volume some lasts installs failing) = install_moves volume (λ server. lasts) installs failing
moves_of_step (Repairs volume source names some lasts installs failing) = install_moves volume lasts installs failing

-- what a client creates is its next object on the volume
abbrev pub CreatesNext : PlainCell → ℕ → ℕ → Deed → Type 0
CreatesNext cell client volume (Operated rec) = (f : Fid) → creates f rec.op ≡ true
    → IsObjectNumbered volume client (created_in (full_of (done_on cell client volume)) + 1) f
CreatesNext cell client volume (Froze number home last) = Unit {0}
CreatesNext cell client volume (Settled number verdict) = Unit {0}
CreatesNext cell client volume Gaveup = Unit {0}

-- by itself a replica appends decisions alone, at a server of its volume; and a client creates its next objects
abbrev pub MayAppendAlone : (ℕ → List ℕ) → PlainCell → Append → Type 0
MayAppendAlone servers cell (AtClient client (Fetched fid parent node)) = Unit {0}
MayAppendAlone servers cell (AtClient client (Did volume deed)) = CreatesNext cell client volume deed
MayAppendAlone servers cell (AtClient client (Dropping gone entry)) =
    MayAppendAlone servers cell (AtClient client entry)
MayAppendAlone servers cell (AtReplica server volume (Decided client number span)) = IsIn server (servers volume)
MayAppendAlone servers cell (AtReplica server volume (Resolved objects lasts)) = ⊥

-- a move appends what may be appended by itself, if anything
abbrev pub MayMoveAlone : (ℕ → List ℕ) → PlainCell → Move → Type 0
MayMoveAlone servers cell (Does append) = MayAppendAlone servers cell append
MayMoveAlone servers cell (Fails append) = MayAppendAlone servers cell append
MayMoveAlone servers cell (Posts letter) = Unit {0}
MayMoveAlone servers cell (Loses message) = Unit {0}
MayMoveAlone servers cell (Crashes who) = Unit {0}
MayMoveAlone servers cell (Recovers who joins) = Unit {0}

-- some replicas of the volume are up and resolved, and what this leaves is installed at them in turn
pub record MayResolve (servers : ℕ → List ℕ) (cell : PlainCell) (volume : ℕ) (some : List ℕ) (lasts : ℕ → Last)
    (installs : List Install) (failing : Option Install) : Type 0 where
  pub among : AreAmong some (servers volume)
  pub up : (server : ℕ) → IsIn server some → (cell.replicas server volume).up ≡ true
  pub joined : AreJoined cell volume some lasts
  pub installed : MayInstallAll (IsResolution cell volume some) cell volume some (λ server. lasts) cell installs failing

-- Some replicas of the volume are up, the object at the names is repaired at them as the source has it, and what this
-- leaves is installed at them in turn: each keeps the last decisions that it had.
pub record MayRepair (servers : ℕ → List ℕ) (cell : PlainCell) (volume source : ℕ) (names : List Name) (some : List ℕ)
    (lasts : ℕ → ℕ → Last) (installs : List Install) (failing : Option Install) : Type 0 where
  pub among : AreAmong some (servers volume)
  pub up : (server : ℕ) → IsIn server some → (cell.replicas server volume).up ≡ true
  pub source_in : IsIn source some
  pub repair : IsRepair cell volume source names some
  pub own : (server client : ℕ) → lasts server client ≡ last_at cell volume server client
  pub installed : MayInstallAll (IsRepairOf cell volume source names some repair) cell volume some lasts cell installs
      failing

-- a step may happen
abbrev pub MayStep : (ℕ → List ℕ) → PlainCell → GroupStep → Type 0
MayStep servers cell (Moves move) = May cell move × MayMoveAlone servers cell move
MayStep servers cell (Resolves volume some lasts installs failing) =
    MayResolve servers cell volume some lasts installs failing
MayStep servers cell (Repairs volume source names some lasts installs failing) =
    MayRepair servers cell volume source names some lasts installs failing

-- a cell after moves, one behind the other
abbrev pub after_moves : PlainCell → List Move → PlainCell
after_moves cell [] = cell
after_moves cell (move ∷ moves) = after_moves (after cell move) moves

-- a cell after a step
abbrev pub after_step : PlainCell → GroupStep → PlainCell
after_step cell step = after_moves cell (moves_of_step step)

-- from a cell, the steps may happen in turn, and leave another
abbrev pub GroupStepped : (ℕ → List ℕ) → PlainCell → List GroupStep → PlainCell → Type 0
GroupStepped servers old [] new = new ≡ old
GroupStepped servers old (step ∷ steps) new = MayStep servers old step
    × GroupStepped servers (after_step old step) steps new
