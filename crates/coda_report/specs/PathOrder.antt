-- What is shown of a volume, and in which order.
use Rattle.std.specs.Prelude.{◌≡◌, ℕ, ◌<◌, List, [], ◌∷◌, Some, Ok, slice_get, count_by, if◌then◌else◌}
use Rattle.std.specs.declared.cmp.Ordering.{Ordering}
use Rattle.std.specs.declared.cmp.Ordering.TheVariants.{Less}
use Rattle.std.specs.Cmp.Lexicographic.{slice_cmp}
use Rattle.std.specs.FinMap as map
use Rattle.coda_fid.specs.Fid.{same_fid}
use Rattle.coda_fid.specs.Name.{name_cmp}
use Rattle.coda_fid.specs.declared.fid.Fid.{Fid}
use Rattle.coda_tree.specs.Bindings.{Name}
use Rattle.coda_tree.specs.Volume.{Nodes, has, IsVolume}
use Rattle.coda_tree.specs.Lookup.{lookup_of}
use Rattle.coda_report.specs.Volumes.{Shown, path_order}

-- the order of paths: the first names that differ decide, by their bytes, and a front of a path comes before it
abbrev pub names_cmp : List Name → List Name → Ordering
names_cmp = slice_cmp name_cmp

-- what is shown begins with the root
abbrev pub BeginsAtRoot : Fid → List Shown → Type 0
BeginsAtRoot root shown = (first : Shown) × (rest : List Shown) × (shown ≡ first ∷ rest) × (first.path ≡ []) × (first.fid ≡ root)

-- each path leads from the root to the object that is shown with it, and the node is the one that stands there
abbrev pub PathsLead : Fid → Nodes → List Shown → Type 0
PathsLead root m shown = (i : ℕ) (s : Shown) → slice_get shown i ≡ Some s → (lookup_of m root 0 s.path ≡ Ok s.fid) × (map.get m s.fid ≡ Some s.node)

-- each path comes before those of all objects behind it
abbrev pub PathsRise : List Shown → Type 0
PathsRise shown = (i j : ℕ) (s t : Shown) → i < j → slice_get shown i ≡ Some s → slice_get shown j ≡ Some t → names_cmp s.path t.path ≡ Less

-- each object that is there is shown once, and no other
abbrev pub EachOnce : Nodes → List Shown → Type 0
EachOnce m shown = (fid : Fid) → count_by (λ s. same_fid s.fid fid) shown ≡ (if has m fid then 1 else 0)

-- a list has the objects of a volume in path order
pub record IsInPathOrder (root : Fid) (m : Nodes) (shown : List Shown) : Type 0 where
  pub first : BeginsAtRoot root shown
  pub lead : PathsLead root m shown
  pub rise : PathsRise shown
  pub once : EachOnce m shown

-- volumes are shown in path order, whole
abbrev pub VolumesAreShownInPathOrder : Type 0
VolumesAreShownInPathOrder = (root : Fid) (m : Nodes) → IsVolume root m → IsInPathOrder root m (path_order root m)
