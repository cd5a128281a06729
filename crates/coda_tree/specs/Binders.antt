-- What a table keeps of how fids are bound, and when that is true of its directories.
use Rattle.std.specs.Prelude.{◌≡◌, ◌≢◌, ◌⊎◌, Bool, true, false, cond, [], ◌∷◌, Option, Some, None}
use Rattle.std.specs.HashMap as hash
use Rattle.std.specs.FinMap as map
use Rattle.coda_fid.specs.Fid.{same_fid}
use Rattle.coda_fid.specs.declared.fid.Fid.{Fid}
use Rattle.coda_tree.specs.declared.binders.Bound.{Bound}
use Rattle.coda_tree.specs.declared.binders.Bound.TheVariants.{Nowhere, Once, Unsure}
use Rattle.coda_tree.specs.declared.binders.Change.{Change}
use Rattle.coda_tree.specs.declared.binders.Change.TheVariants.{More, Less, Moved}
use Rattle.coda_tree.specs.declared.binders.Binders.{Binders}
use Rattle.coda_tree.specs.Bindings.{Name, Pairs}
use Rattle.coda_tree.specs.Tree.{Child}
use Rattle.coda_tree.specs.declared.node.Node.{Node}
use Rattle.coda_tree.specs.declared.node.NodeKind.{NodeKind}
use Rattle.coda_tree.specs.declared.node.NodeKind.TheVariants.{File, Link, Dir}

-- what is kept of a fid; without an entry it is bound nowhere, where the entries are whole
abbrev pub bound_in : Bool → Option Bound → Bound
bound_in whole (Some bound) = bound
bound_in true None = Nowhere
bound_in false None = Unsure

abbrev pub bound_at : Binders → Fid → Bound
bound_at binders f = bound_in binders.whole (hash.get same_fid binders.kept f)

-- what is known after a change of what was known before
abbrev pub bound_after : Change → Bound → Bound
bound_after change Unsure = Unsure
bound_after Less Nowhere = Nowhere
bound_after Less (Once d) = Nowhere
bound_after (More dir) Nowhere = Once dir
bound_after (More dir) (Once d) = Unsure
bound_after (Moved dir) Nowhere = Once dir
bound_after (Moved dir) (Once d) = Once dir

-- what is known of q once this is known of f
abbrev pub known_at : Fid → Bound → Fid → Bound → Bound
known_at f known q bound = cond (same_fid f q) known bound

-- what is known of q after a change of f
abbrev pub after_at : Fid → Change → Fid → Bound → Bound
after_at f change q bound = known_at f (bound_after change bound) q bound

-- what is known of q once a name is gone that was bound to this
abbrev pub after_leave : Option Fid → Fid → Bound → Bound
after_leave None q bound = bound
after_leave (Some f) q bound = after_at f Less q bound

-- what is known of q once a name is gone that was bound to this, and a directory binds f at a name more
abbrev pub after_move : Option Fid → Fid → Fid → Fid → Bound → Bound
after_move was f dir q bound = after_at f (More dir) q (after_leave was q bound)

-- what is known of q after the same change for the fid of each pair
abbrev pub after_all : Change → Pairs → Fid → Bound → Bound
after_all change [] q bound = bound
after_all change (pair ∷ pairs) q bound = after_all change pairs q (after_at pair.1 change q bound)

-- the pairs of what a node of this kind binds: none, unless it is a directory
abbrev pub pairs_in : NodeKind → Pairs
pairs_in (File content) = []
pairs_in (Link target) = []
pairs_in (Dir entries) = map.entries entries

-- the pairs of what a node binds, where there is one
abbrev pub pairs_of : Option Node → Pairs
pairs_of None = []
pairs_of (Some node) = pairs_in node.kind

-- the second says the same as the first, or leaves it open
abbrev pub SaysNoMore : Bound → Bound → Type 0
SaysNoMore known now = (now ≡ known) ⊎ (now ≡ Unsure)

-- of each fid what is known now is what the step makes of it, or it is left open
abbrev pub Notes : Binders → Binders → (Fid → Bound → Bound) → Type 0
Notes old new step = (q : Fid) → SaysNoMore (step q (bound_at old q)) (bound_at new q)

-- that directory binds f at that name, and no other name is bound to f
pub record IsOnlyName (child : Child) (f dir : Fid) (name : Name) : Type 0 where
  pub bound : child dir name ≡ Some f
  pub only : (d : Fid) (n : Name) → child d n ≡ Some f → (d ≡ dir) × (n ≡ name)

-- what is said of a fid is true of the directories
abbrev pub IsTrueOf : Child → Fid → Bound → Type 0
IsTrueOf child f Nowhere = (d : Fid) (n : Name) → child d n ≢ Some f
IsTrueOf child f (Once dir) = (name : Name) × IsOnlyName child f dir name
IsTrueOf child f Unsure = Unit {0}

-- what is kept of each fid is true of the directories
abbrev pub AreBinders : Child → Binders → Type 0
AreBinders child binders = (f : Fid) → IsTrueOf child f (bound_at binders f)
