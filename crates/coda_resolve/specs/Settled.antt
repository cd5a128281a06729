-- How copies stand after a resolution.
use Rattle.std.specs.Prelude.{◌≡◌, ◌≢◌, Bool, true, false, Option, Some, None, ◌⊎◌}
use Rattle.std.specs.List.{AllByRecursion}
use Rattle.coda_fid.specs.declared.fid.Fid.{Fid}
use Rattle.coda_reslog.specs.declared.change.Held.{Held}
use Rattle.coda_resolve.specs.Copies.{Copies, is_marked}
use Rattle.coda_tree.specs.declared.node.NodeKind.{NodeKind}
use Rattle.coda_tree.specs.declared.node.NodeKind.TheVariants.{File, Link, Dir}
use Rattle.coda_resolve.specs.declared.why.Why.{Why}
use Rattle.coda_resolve.specs.declared.why.Why.TheVariants.{Kept}
use Rattle.coda_resolve.specs.Settling.{Same, Marked, Gone, fate, settled, is_new}

-- each replica holds this
abbrev pub IsEverywhere : Held → Copies → Type 0
IsEverywhere held copies = AllByRecursion (λ copy. copy ≡ Some held) copies

-- each replica has it marked
abbrev pub IsMarkedEverywhere : Copies → Type 0
IsMarkedEverywhere copies = AllByRecursion (λ copy. is_marked copy ≡ true) copies

-- all replicas hold the same, or all have it marked
abbrev pub IsEqualOrMarked : Copies → Type 0
IsEqualOrMarked copies = ((held : Held) × IsEverywhere held copies) ⊎ IsMarkedEverywhere copies

-- an object that some replica has is the same at all replicas after its resolution, or marked at all
abbrev pub ResolvedAreEqualOrMarked : Type 0
ResolvedAreEqualOrMarked = (copies : Copies) (look : Fid → Copies) → fate copies look ≢ Gone → IsEqualOrMarked (settled copies look)

-- whether it is a directory
abbrev pub is_dir : NodeKind → Bool
is_dir (File content) = false
is_dir (Link target) = false
is_dir (Dir entries) = true

-- the copy, if there is one, is a directory just where this is so
abbrev pub HasKind : Bool → Option Held → Type 0
HasKind b None = Unit {0}
HasKind b (Some held) = is_dir held.node.kind ≡ b

-- the object is a directory at all replicas that have it, or at none
abbrev pub AreOneKind : Copies → Type 0
AreOneKind copies = (b : Bool) × AllByRecursion (HasKind b) copies

-- an object that is the same everywhere after a resolution stays so in the next one
abbrev pub ResolvedStay : Type 0
ResolvedStay = (copies : Copies) (look later : Fid → Copies) (held : Held) → AreOneKind copies → fate copies look ≡ Same held → fate (settled copies look) later ≡ Same held

-- an object that is marked after a resolution stays as it is in the next one, and no mark is new
abbrev pub MarkedStay : Type 0
MarkedStay = (copies : Copies) (look later : Fid → Copies) (why : Why) → fate copies look ≡ Marked why → (fate (settled copies look) later ≡ Marked Kept) × ((settled (settled copies look) later ≡ settled copies look) × (is_new (settled copies look) (Marked Kept) ≡ false))
