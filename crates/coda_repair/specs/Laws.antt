-- What holds behind a repair.
use Rattle.std.specs.Prelude.{◌≡◌, ◌≢◌, ◌⊎◌, ℕ, ◌+◌, ◌≤◌, true, false, List, [], Some, option_map, length}
use Rattle.std.specs.FinMap as finmap
use Rattle.std.specs.List.{AllZip, zip}
use Rattle.coda_fid.specs.declared.fid.Fid.{Fid}
use Rattle.coda_tree.specs.Bindings.{Name}
use Rattle.coda_tree.specs.Tree.{IsBelow}
use Rattle.coda_vv.specs.Vector.{count, IsInVersion}
use Rattle.coda_reslog.specs.declared.change.Held.{Held}
use Rattle.coda_reslog.specs.declared.change.Change.{Change}
use Rattle.coda_record.specs.declared.view.View.{View}
use Rattle.coda_resolve.specs.Settled.{IsEverywhere}
use Rattle.coda_resolve.specs.Resolution.{Objects, Replicas, copies_at, child_in, IsTreeView}
use Rattle.coda_resolve.specs.Placement.{IsIn, AreTreesOfOneKind}
use Rattle.coda_resolve.specs.Changes.{changed, afterwards}
use Rattle.coda_resolve.specs.Views.{replicas_of}
use Rattle.coda_lineage.specs.Repairs.{LeadsAlike}
use Rattle.coda_lineage.specs.Lineage.{Group, held_at, IsChangedOrNot, IsRepaired}
use Rattle.coda_repair.specs.Finding.{held_by, IsFound}
use Rattle.coda_repair.specs.Repaired.{AreRepairs}

-- Where a path leads to an object for a repair, the source is one of the replicas, and the names lead to that object at
-- each of them through the same directories.
abbrev pub FoundLeadAlike : Type 0
FoundLeadAlike = (views : List View) (from : ℕ) (root : Fid) (names : List Name) (top : Fid)
    → IsFound views from root names top
    → IsIn (held_by views from) (replicas_of views)
    × ((view : Objects) → IsIn view (replicas_of views) → LeadsAlike (held_by views from) view root names top)

-- the source's node, not marked
abbrev pub IsMended : Held → Held → Type 0
IsMended was held = held.node ≡ record was.node { marked = false }

-- what is held has all updates that are in a copy, and one more of the server
abbrev pub HasMore : ℕ → Held → Held → Type 0
HasMore source held old = ((server number : ℕ)
    → IsInVersion old.vector.0 server number → IsInVersion held.vector.0 server number)
    × IsInVersion held.vector.0 source (count old.vector.0 source + 1)

-- Behind a repair the object and each one below it that the source has is the same at all replicas: the source's node,
-- not marked, with an empty log if it has one, and with all updates of what any replica held and one more of the source.
-- Each vector has a count for each of eight servers.
abbrev pub RepairedAreEqual : Type 0
RepairedAreEqual = (views : Replicas) (source : ℕ) (right : Objects) (top f : Fid) (was : Held) (changes : List Change)
    → 1 ≤ source → source ≤ 8
    → ((view : Objects) (old : Held) → IsIn view views → finmap.get view f ≡ Some old → length old.vector.0 ≡ 8)
    → AreRepairs views source right top changes
    → IsBelow (child_in right) top f → finmap.get right f ≡ Some was
    → (held : Held)
    × (IsEverywhere held (copies_at (afterwards views changes) f)
    × (IsMended was held
    × ((held.ring ≡ option_map (λ log. []) was.ring)
    × ((view : Objects) (old : Held) → IsIn view views → finmap.get view f ≡ Some old → HasMore source held old))))

-- A directory that isn't repaired and stays, and that binds an object no more behind a repair, is marked, and what it
-- lost is repaired.
abbrev pub LosersAreMarked : Type 0
LosersAreMarked = (views : Replicas) (source : ℕ) (right view : Objects) (top d f : Fid) (n : Name) (held : Held)
    (changes : List Change) (change : Change)
    → AreRepairs views source right top changes → IsIn (view, change) (zip views changes)
    → (IsBelow (child_in right) top d → ⊥)
    → child_in view d n ≡ Some f → finmap.get (changed view change) d ≡ Some held
    → child_in (changed view change) d n ≢ Some f
    → (held.node.marked ≡ true) × (IsBelow (child_in right) top f)

-- The source, which is a tree, keeps all but the object and what is below it as it was.
abbrev pub SourceKeepsTheRest : Type 0
SourceKeepsTheRest = (views : Replicas) (root : Fid) (source : ℕ) (right : Objects) (top f : Fid)
    (changes : List Change) (change : Change)
    → IsTreeView root right → AreRepairs views source right top changes → IsIn (right, change) (zip views changes)
    → (IsBelow (child_in right) top f → ⊥)
    → finmap.get (changed right change) f ≡ finmap.get right f

-- Replicas that are trees of one kind stay so, whichever of them a repair is installed at.
abbrev pub RepairsKeepTreesOfOneKind : Type 0
RepairsKeepTreesOfOneKind = (views later : Replicas) (root : Fid) (source : ℕ) (right : Objects) (names : List Name)
    (top : Fid) (changes : List Change)
    → AreTreesOfOneKind views root → IsIn right views
    → ((view : Objects) → IsIn view views → LeadsAlike right view root names top)
    → AreRepairs views source right top changes
    → later ≢ []
    → ((view : Objects) → IsIn view later → IsIn view views ⊎ IsIn view (afterwards views changes))
    → AreTreesOfOneKind later root

-- Where changes that a repair answers for the replicas at some servers are installed at any of them, that is a repair
-- in the volume's life.
abbrev pub RepairsBelongToTheLineage : Type 0
RepairsBelongToTheLineage = (root : Fid) (before after : Group) (some : List ℕ) (source : ℕ) (names : List Name)
    (top : Fid) (changes : List Change)
    → ((s : ℕ) → IsIn s some → LeadsAlike (before.holds source) (before.holds s) root names top)
    → AreRepairs (held_at before some) source (before.holds source) top changes
    → AllZip (IsChangedOrNot before after) some changes
    → ((s : ℕ) → (IsIn s some → ⊥) → after.holds s ≡ before.holds s)
    → after.made ≡ before.made
    → IsRepaired root some source names before after
