-- The replicas of a volume over its life, and that any of them are always trees of one kind.
use Rattle.std.specs.Prelude.{◌≡◌, ◌≢◌, ℕ, Bool, true, false, ◌||◌, List, [], map, Some, ◌⊎◌, ◌↔◌}
use Rattle.std.specs.FinMap as finmap
use Rattle.std.specs.List.{AllZip}
use Rattle.coda_fid.specs.Fid.{same_fid}
use Rattle.coda_fid.specs.declared.fid.Fid.{Fid}
use Rattle.coda_fid.specs.declared.op.Record.{Record}
use Rattle.coda_tree.specs.Bindings.{Name}
use Rattle.coda_tree.specs.Tree.{IsBelow}
use Rattle.coda_tree.specs.Volume.{fresh_root, is_at_fid}
use Rattle.coda_vv.specs.Vector.{no_updates}
use Rattle.coda_reslog.specs.declared.change.Held.{Held}
use Rattle.coda_reslog.specs.declared.change.Change.{Change}
use Rattle.coda_resolve.specs.Resolution.{Objects, Replicas, copies_at, child_in}
use Rattle.coda_resolve.specs.Placement.{IsIn, AreTreesOfOneKind}
use Rattle.coda_resolve.specs.Trees.{IsInstalled}
use Rattle.coda_resolve.specs.Changes.{changed, AreChanges}
use Rattle.coda_lineage.specs.Deeds.{makes, IsDecision}
use Rattle.coda_lineage.specs.Repairs.{LeadsAlike, IsRepairedAt}

-- the replicas of a volume: what that of each server holds, and the objects that were ever made
pub record Group : Type 0 where
  pub holds : ℕ → Objects
  pub made : Fid → Bool

-- what the replicas at some servers hold
abbrev pub held_at : Group → List ℕ → Replicas
held_at group some = map group.holds some

-- ---- what may happen

-- the root of a new volume: an empty directory without an update
abbrev pub new_root : Held
new_root = record { node = fresh_root; vector = record { 0 = no_updates }; ring = Some [] }

-- a new volume: each replica holds the root alone
pub record IsNew (root : Fid) (group : Group) : Type 0 where
  pub roots : (s : ℕ) → group.holds s ≡ finmap.insert finmap.empty root new_root
  pub made : (f : Fid) → group.made f ≡ same_fid f root

-- the replica at one server decides a record, whose new object, where it makes one, was never made before
pub record IsDecided (server client : ℕ) (rec : Record) (before after : Group) : Type 0 where
  pub decides : IsDecision server client rec (before.holds server) (after.holds server)
  pub others : (s : ℕ) → s ≢ server → after.holds s ≡ before.holds s
  pub new : (f : Fid) → makes rec.op ≡ Some f → before.made f ≡ false
  pub made : (f : Fid) → after.made f ≡ (before.made f || is_at_fid (makes rec.op) f)

-- the replicas at some servers are resolved, and at any of these what the resolution leaves is installed
pub record IsResolved (root : Fid) (some : List ℕ) (before after : Group) : Type 0 where
  pub each : (s : ℕ)
      → (after.holds s ≡ before.holds s)
      ⊎ (IsIn s some × IsInstalled (held_at before some) root (before.holds s) (after.holds s))
  pub made : after.made ≡ before.made

-- the object at a path is repaired at some servers: the same names lead to it at each, and any of these is left with
-- what the source has at and below it (that it is marked, and what is above it isn't, is asked before and not needed)
pub record IsRepaired (root : Fid) (some : List ℕ) (source : ℕ) (names : List Name)
    (before after : Group) : Type 0 where
  pub top : Fid
  pub leads : (s : ℕ) → IsIn s some → LeadsAlike (before.holds source) (before.holds s) root names top
  pub subtree : Fid → Bool
  pub below : (f : Fid) → (subtree f ≡ true) ↔ IsBelow (child_in (before.holds source)) top f
  pub each : (s : ℕ) → (after.holds s ≡ before.holds s)
      ⊎ (IsIn s some
      × IsRepairedAt subtree top source (copies_at (held_at before some)) (before.holds source) (before.holds s)
      (after.holds s))
  pub made : after.made ≡ before.made

-- all of them are servers of the volume
abbrev pub AreAmong : List ℕ → List ℕ → Type 0
AreAmong some servers = (s : ℕ) → IsIn s some → IsIn s servers

-- the replicas of a volume at some time: it is new, or a record was decided at one of them, or some of them were
-- resolved, or an object was repaired at some
pub data IsReached (root : Fid) (servers : List ℕ) : Group → Type 0 where
  new_volume : (group : Group) → IsNew root group → IsReached root servers group
  decided : (before after : Group) (server client : ℕ) (rec : Record) → IsReached root servers before
      → IsIn server servers → IsDecided server client rec before after → IsReached root servers after
  resolved : (before after : Group) (some : List ℕ) → IsReached root servers before → AreAmong some servers
      → IsResolved root some before after → IsReached root servers after
  repaired : (before after : Group) (some : List ℕ) (source : ℕ) (names : List Name) → IsReached root servers before
      → AreAmong some servers → IsIn source some → IsRepaired root some source names before after
      → IsReached root servers after

-- ---- the law

-- whatever was decided, resolved and repaired since a volume was new, and at whichever replicas it was installed, any
-- of its replicas are trees of one kind
abbrev pub ReplicasStayTreesOfOneKind : Type 0
ReplicasStayTreesOfOneKind = (root : Fid) (servers : List ℕ) (group : Group) (some : List ℕ)
    → IsReached root servers group → AreAmong some servers → some ≢ [] → AreTreesOfOneKind (held_at group some) root

-- ---- what `merge` answers is what is installed

-- a replica holds what it did, or what its change makes of it
abbrev pub IsChangedOrNot : Group → Group → ℕ → Change → Type 0
IsChangedOrNot before after s change = (after.holds s ≡ before.holds s)
    ⊎ (after.holds s ≡ changed (before.holds s) change)

-- where changes that a merge answers for the replicas at some servers are installed at any of them, these are
-- resolved
abbrev pub MergesAreResolutions : Type 0
MergesAreResolutions = (root : Fid) (before after : Group) (some : List ℕ) (changes : List Change)
    → AreChanges (held_at before some) root changes → AllZip (IsChangedOrNot before after) some changes
    → ((s : ℕ) → (IsIn s some → ⊥) → after.holds s ≡ before.holds s) → after.made ≡ before.made
    → IsResolved root some before after
