-- The outcome of a resolution, as data.
use Rattle.std.specs.Prelude.{ℕ, ◌+◌, zero, suc, cond, List, [], ◌∷◌, Option, Some, None}
use Rattle.std.specs.List.{filter_map, flat_map, IsDistinct}
use Rattle.std.specs.Ordering.{eq_by_cmp}
use Rattle.std.specs.FinMap as finmap
use Rattle.coda_fid.specs.Fid.{fid_cmp}
use Rattle.coda_fid.specs.declared.fid.Fid.{Fid}
use Rattle.coda_tree.specs.Volume.{bindings}
use Rattle.coda_resolve.specs.declared.why.Mark.{Mark}
use Rattle.coda_resolve.specs.Copies.{Copies}
use Rattle.coda_resolve.specs.Settling.{Fate, Same, Marked, Gone, is_new}
use Rattle.coda_resolve.specs.Resolution.{Replicas, copies_at, fate_at, IsTakenUp}
use Rattle.coda_resolve.specs.Placement.{IsIn, AreTreesOfOneKind}

-- ---- the walk

-- the objects that are taken up next: what the directory binds that is the same everywhere, names in order
abbrev pub next_up : Fate → List Fid
next_up (Same held) = finmap.values (bindings held.node.kind)
next_up (Marked why) = []
next_up Gone = []

-- what is taken up from an object on, in path order, so many levels deep
abbrev pub walk : ℕ → Replicas → Fid → List Fid
walk zero views f = []
walk (suc levels) views f = f ∷ flat_map (walk levels views) (next_up (fate_at views f))

-- no path is longer than there are objects
abbrev pub levels_of : Replicas → ℕ
levels_of [] = 1
levels_of (view ∷ views) = finmap.len view + levels_of views

-- what a resolution takes up, in path order
abbrev pub taken_up : Replicas → Fid → List Fid
taken_up views root = walk (levels_of views) views root

-- ---- marks

-- the mark, where it is new
abbrev pub mark_by : Copies → Fid → Fate → Option Mark
mark_by copies f (Same held) = None
mark_by copies f (Marked why) = cond (is_new copies (Marked why)) (Some (record { fid = f; why = why })) None
mark_by copies f Gone = None

-- the new marks, in path order
abbrev pub marks_of : Replicas → Fid → List Mark
marks_of views root = filter_map (λ f. mark_by (copies_at views f) f (fate_at views f)) (taken_up views root)

-- ---- the law of the walk

-- the walk meets nothing but what is taken up, and of trees of one kind all of it, each object once
pub record WalkIsTakenUp : Type 0 where
  pub nothing_else : (views : Replicas) (root f : Fid) → IsIn f (taken_up views root) → IsTakenUp views root f
  pub all : (views : Replicas) (root f : Fid) → AreTreesOfOneKind views root → IsTakenUp views root f → IsIn f (taken_up views root)
  pub once : (views : Replicas) (root : Fid) → AreTreesOfOneKind views root → IsDistinct (eq_by_cmp fid_cmp) (taken_up views root)
