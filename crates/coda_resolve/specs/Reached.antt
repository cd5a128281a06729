-- What a replica binds below some objects.
use Rattle.std.specs.Prelude.{◌≡◌, true, List, Some, ◌⊎◌}
use Rattle.std.specs.BTreeSet.{BTreeSet}
use Rattle.coda_fid.specs.declared.fid.Fid.{Fid}
use Rattle.coda_tree.specs.Bindings.{Name}
use Rattle.coda_resolve.specs.Resolution.{Objects, child_in}
use Rattle.coda_resolve.specs.Counted.{has_fid}
use Rattle.coda_resolve.specs.Changes.{is_among}

-- the object is one of these, or bound below one of them
pub data IsReached (view : Objects) (starts : List Fid) : Fid → Type 0 where
  start : (f : Fid) → is_among starts f ≡ true → IsReached view starts f
  onward : (d : Fid) (n : Name) (f : Fid) → IsReached view starts d → child_in view d n ≡ Some f → IsReached view starts f

-- the fids seen so far and those that wait: both are reached, each start is among them, and what a seen one binds
pub record IsSearch (view : Objects) (starts : List Fid) (seen : BTreeSet Fid) (waiting : List Fid) : Type 0 where
  pub reached : (f : Fid) → has_fid seen f ≡ true → IsReached view starts f
  pub ahead : (f : Fid) → is_among waiting f ≡ true → IsReached view starts f
  pub begun : (f : Fid) → is_among starts f ≡ true → (has_fid seen f ≡ true) ⊎ (is_among waiting f ≡ true)
  pub closed : (d : Fid) (n : Name) (f : Fid) → has_fid seen d ≡ true → child_in view d n ≡ Some f → (has_fid seen f ≡ true) ⊎ (is_among waiting f ≡ true)

-- the set has what is reached, and nothing else
pub record AreReached (view : Objects) (starts : List Fid) (set : BTreeSet Fid) : Type 0 where
  pub only : (f : Fid) → has_fid set f ≡ true → IsReached view starts f
  pub all : (f : Fid) → IsReached view starts f → has_fid set f ≡ true
