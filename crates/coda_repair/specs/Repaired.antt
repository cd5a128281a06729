-- The changes by which a repair is made.
use Rattle.std.specs.Prelude.{◌≡◌, ◌↔◌, ℕ, Bool, true, List, map}
use Rattle.std.specs.List.{AllZip}
use Rattle.coda_fid.specs.declared.fid.Fid.{Fid}
use Rattle.coda_tree.specs.Tree.{IsBelow}
use Rattle.coda_reslog.specs.declared.change.Change.{Change}
use Rattle.coda_record.specs.declared.view.View.{View}
use Rattle.coda_resolve.specs.Copies.{Copies}
use Rattle.coda_resolve.specs.Resolution.{Objects, Replicas, copies_at, child_in}
use Rattle.coda_resolve.specs.Placement.{IsIn}
use Rattle.coda_resolve.specs.Renewals.{changes_of}
use Rattle.coda_resolve.specs.Views.{objects_of, replicas_of}
use Rattle.coda_resolve.specs.Changes.{changed, IsChange}
use Rattle.coda_lineage.specs.Repairs.{IsRepairedAt}

-- the change makes of the replica what a repair leaves of it, and has nothing besides
pub record IsReplicaRepair (subtree : Fid → Bool) (top : Fid) (source : ℕ) (copies : Fid → Copies)
    (right view : Objects) (change : Change) : Type 0 where
  pub repaired : IsRepairedAt subtree top source copies right view (changed view change)
  pub exact : IsChange view (changed view change) change

-- They are the changes of the replicas, one for each: the object and all that the source binds below it is put at each
-- as the source has it.
pub record AreRepairs (views : Replicas) (source : ℕ) (right : Objects) (top : Fid) (changes : List Change)
    : Type 0 where
  pub subtree : Fid → Bool
  pub below : (f : Fid) → (subtree f ≡ true) ↔ IsBelow (child_in right) top f
  pub each : AllZip (IsReplicaRepair subtree top source (copies_at views) right) views changes

-- the servers of changes
abbrev pub changed_servers : List (ℕ × Change) → List ℕ
changed_servers changes = map (λ change. change.0) changes

-- the servers of the views
abbrev pub servers_of : List View → List ℕ
servers_of views = map (λ (view : View). view.server) views

-- they are the changes of the views' replicas
abbrev pub AreRepairsOf : List View → ℕ → Objects → Fid → List (ℕ × Change) → Type 0
AreRepairsOf views source right top changes = AreRepairs (replicas_of views) source right top (changes_of changes)

-- they are those of the views' replicas, if these are the objects that are repaired
abbrev pub AreChangesOf : List View → ℕ → View → (Fid → Bool) → Fid → List (ℕ × Change) → Type 0
AreChangesOf views source right subtree top changes =
    AllZip (IsReplicaRepair subtree top source (copies_at (replicas_of views)) (objects_of right)) (replicas_of views)
    (changes_of changes)

-- it is that of one of the views' replicas
abbrev pub IsChangeOf : List View → ℕ → View → (Fid → Bool) → Fid → View → Change → Type 0
IsChangeOf views source right subtree top view change = IsIn (objects_of view) (replicas_of views)
    → IsReplicaRepair subtree top source (copies_at (replicas_of views)) (objects_of right) (objects_of view) change
