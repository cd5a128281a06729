-- Replicas that are trees, where they bind an object, and what a resolution makes of it.
use Rattle.std.specs.Prelude.{◌≡◌, true, List, [], ◌∷◌, Option, Some, ◌⊎◌, ◌↔◌, Bool}
use Rattle.std.specs.List.{AllByRecursion}
use Rattle.std.specs.FinMap as finmap
use Rattle.coda_fid.specs.declared.fid.Fid.{Fid}
use Rattle.coda_tree.specs.Bindings.{Name}
use Rattle.coda_tree.specs.Volume.{bindings}
use Rattle.coda_reslog.specs.declared.entry.ResEntry.{ResEntry}
use Rattle.coda_reslog.specs.declared.change.Held.{Held}
use Rattle.coda_resolve.specs.Copies.{Copies}
use Rattle.coda_resolve.specs.Missing.{has_update, missing, leads}
use Rattle.coda_resolve.specs.Settling.{Same}
use Rattle.coda_resolve.specs.Settled.{HasKind, AreOneKind}
use Rattle.coda_resolve.specs.Resolution.{Objects, Replicas, copies_at, fate_at, AreTrees, child_in}

-- some item has the property
abbrev pub SomeOf : {X : Type 0} → (X → Type 0) → List X → Type 0
SomeOf P [] = ⊥
SomeOf P (x ∷ xs) = P x ⊎ SomeOf P xs

-- the item is in the list
abbrev pub IsIn : {X : Type 0} → X → List X → Type 0
IsIn x xs = SomeOf (λ y. y ≡ x) xs

-- replicas that a resolution may take: trees whose root is a directory, and what any two of them hold under one fid is of one kind
pub record AreTreesOfOneKind (views : Replicas) (root : Fid) : Type 0 where
  pub trees : AreTrees root views
  pub top : AllByRecursion (HasKind true) (copies_at views root)
  pub kinds : (f : Fid) → AreOneKind (copies_at views f)

-- of trees of one kind, no two directories that are the same everywhere after a resolution bind one object
abbrev pub SettledBindApart : Type 0
SettledBindApart = (views : Replicas) (root d e f : Fid) (n k : Name) (one other : Held) → AreTreesOfOneKind views root → fate_at views d ≡ Same one → fate_at views e ≡ Same other → finmap.get (bindings one.node.kind) n ≡ Some f → finmap.get (bindings other.node.kind) k ≡ Some f → d ≡ e

-- and no replica binds an object in another directory than the one that is the same everywhere and binds it
abbrev pub SettledBindAlone : Type 0
SettledBindAlone = (views : Replicas) (root d e f : Fid) (n k : Name) (one : Held) (view : Objects) → AreTreesOfOneKind views root → fate_at views d ≡ Same one → finmap.get (bindings one.node.kind) n ≡ Some f → IsIn view views → child_in view e k ≡ Some f → d ≡ e

-- a copy's missing updates of a kind contain every other's just where it has each missing update of the kind
abbrev pub LeadersHaveAll : Type 0
LeadersHaveAll = (kind : ResEntry → Bool) (copies : Copies) (copy : Option Held) → (leads kind copies copy ≡ true) ↔ ((u : ResEntry) → IsIn u (missing copies) → kind u ≡ true → has_update u copy ≡ true)
