-- The resolution of a volume: what is taken up, and what stands after it.
use Rattle.std.specs.Prelude.{◌≡◌, Bool, false, List, [], ◌∷◌, map, Option, Some, is_some}
use Rattle.std.specs.List.{AllByRecursion}
use Rattle.std.specs.FinMap as finmap
use Rattle.std.specs.FinMap.{FinMap}
use Rattle.coda_fid.specs.Fid.{fid_cmp}
use Rattle.coda_fid.specs.declared.fid.Fid.{Fid}
use Rattle.coda_tree.specs.Bindings.{Name}
use Rattle.coda_tree.specs.Tree.{IsTree}
use Rattle.coda_tree.specs.Volume.{bindings}
use Rattle.coda_reslog.specs.declared.change.Held.{Held}
use Rattle.coda_resolve.specs.Copies.{Copies, bindings_of}
use Rattle.coda_resolve.specs.Settling.{Fate, Same, fate, settled, is_new}
use Rattle.coda_resolve.specs.Settled.{IsEqualOrMarked, AreOneKind}

-- what a replica holds, by fid
abbrev pub Objects : Type 0
Objects = FinMap fid_cmp Held

-- what the reachable replicas hold, the lowest server first
abbrev pub Replicas : Type 0
Replicas = List Objects

-- what each holds at a fid
abbrev pub copies_at : Replicas → Fid → Copies
copies_at views f = map (λ view. finmap.get view f) views

-- what becomes of the object at a fid
abbrev pub fate_at : Replicas → Fid → Fate
fate_at views f = fate (copies_at views f) (copies_at views)

-- what the replicas then hold there
abbrev pub settled_at : Replicas → Fid → Copies
settled_at views f = settled (copies_at views f) (copies_at views)

-- the object is the root, or bound in a directory that is taken up and is the same everywhere after it
pub data IsTakenUp (views : Replicas) (root : Fid) : Fid → Type 0 where
  at_root : (f : Fid) → f ≡ root → IsTakenUp views root f
  below : (d : Fid) (n : Name) (f : Fid) (held : Held) → fate_at views d ≡ Same held → finmap.get (bindings held.node.kind) n ≡ Some f → IsTakenUp views root d → IsTakenUp views root f

-- the later views have, of each object that was taken up, what its resolution leaves
abbrev pub IsResolved : Replicas → Fid → Replicas → Type 0
IsResolved views root later = (f : Fid) → IsTakenUp views root f → copies_at later f ≡ settled_at views f

-- whether a view has the fid, and what it binds
abbrev pub has_in : Objects → Fid → Bool
has_in view f = is_some (finmap.get view f)

abbrev pub child_in : Objects → Fid → Name → Option Fid
child_in view d n = finmap.get (bindings_of (finmap.get view d)) n

-- the view is a tree
abbrev pub IsTreeView : Fid → Objects → Type 0
IsTreeView root view = IsTree root (has_in view) (child_in view)

-- there are replicas, and each is a tree
abbrev pub AreTrees : Fid → Replicas → Type 0
AreTrees root [] = ⊥
AreTrees root (view ∷ views) = AllByRecursion (IsTreeView root) (view ∷ views)

-- each object that is taken up is then the same at all replicas, or marked at all
abbrev pub TakenUpAreEqualOrMarked : Type 0
TakenUpAreEqualOrMarked = (views later : Replicas) (root f : Fid) → AreTrees root views → IsResolved views root later → IsTakenUp views root f → IsEqualOrMarked (copies_at later f)

-- a second resolution right after the first takes up no other objects, touches none of them and makes no new mark
abbrev pub SecondChangesNothing : Type 0
SecondChangesNothing = (views later : Replicas) (root f : Fid) → ((g : Fid) → AreOneKind (copies_at views g)) → IsResolved views root later → IsTakenUp later root f → IsTakenUp views root f × ((settled_at later f ≡ copies_at later f) × (is_new (copies_at later f) (fate_at later f) ≡ false))
