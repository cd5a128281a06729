-- Which object is repaired: where names lead, alike at all replicas.
use Rattle.std.specs.Prelude.{◌≡◌, ◌≢◌, ℕ, ◌<◌, ◌^◌, ◌==◌, Bool, true, false, cond, List, [], ◌∷◌, Option, Some, None}
use Rattle.std.specs.List.{AllByRecursion}
use Rattle.std.specs.FinMap as finmap
use Rattle.std.specs.FinMap.{is_sorted}
use Rattle.coda_fid.specs.Fid.{fid_cmp, root_of}
use Rattle.coda_fid.specs.declared.fid.Fid.{Fid}
use Rattle.coda_tree.specs.Bindings.{Name}
use Rattle.coda_vv.specs.Vector.{count}
use Rattle.coda_reslog.specs.declared.change.Held.{Held}
use Rattle.coda_record.specs.declared.view.View.{View}
use Rattle.coda_resolve.specs.Copies.{is_marked}
use Rattle.coda_resolve.specs.Resolution.{Objects, has_in, child_in}
use Rattle.coda_resolve.specs.Views.{objects_of, volume_of}
use Rattle.coda_lineage.specs.Repairs.{LeadsAlike}

-- ---- the source

-- the view of a server: the first of them
abbrev pub view_of : List View → ℕ → Option View
view_of [] from = None
view_of (view ∷ views) from = cond (view.server == from) (Some view) (view_of views from)

-- the view, if there is one, has its objects in the order of fids
abbrev pub IsSortedView : Option View → Type 0
IsSortedView None = Unit {0}
IsSortedView (Some view) = is_sorted fid_cmp view.held ≡ true

-- what a view shows of a replica: nothing, where there is no view
abbrev pub objects_from : Option View → Objects
objects_from None = finmap.empty
objects_from (Some view) = objects_of view

-- what the replica of a server holds
abbrev pub held_by : List View → ℕ → Objects
held_by views from = objects_from (view_of views from)

-- of each object that a replica holds fewer than 2^63 updates of the server are in what it holds
abbrev pub HasRoom : ℕ → View → Type 0
HasRoom from view = AllByRecursion (λ (o : Fid × Held). count o.1.vector.0 from < 2 ^ 63) view.held

-- so it is at each replica
abbrev pub HaveRoom : ℕ → List View → Type 0
HaveRoom from views = AllByRecursion (HasRoom from) views

-- ---- the way

-- where the names lead at a replica, if there is an object to begin with and each name is bound
abbrev pub walked : Objects → Option Fid → List Name → Option Fid
walked view None names = None
walked view (Some d) [] = Some d
walked view (Some d) (n ∷ names) = walked view (child_in view d n) names

-- none of the directories that the names lead through is marked at the replica
abbrev pub IsClear : Objects → Fid → List Name → Type 0
IsClear view d [] = Unit {0}
IsClear view d (n ∷ names) = (is_marked (finmap.get view d) ≡ false)
    × ((g : Fid) → child_in view d n ≡ Some g → IsClear view g names)

-- the names lead to the object at the view's replica as at the source, and through no marked directory, if the replica
-- is another than the source
pub record IsWay (right : Objects) (from : ℕ) (root : Fid) (names : List Name) (top : Fid) (view : View) : Type 0 where
  pub leads : LeadsAlike right (objects_of view) root names top
  pub clear : view.server ≢ from → IsClear (objects_of view) root names

-- the names lead to the object, which the source has, and so they do at each replica
pub record IsFound (views : List View) (from : ℕ) (root : Fid) (names : List Name) (top : Fid) : Type 0 where
  pub there : has_in (held_by views from) top ≡ true
  pub ways : AllByRecursion (IsWay (held_by views from) from root names top) views

-- so they do from the volume's root
abbrev pub LeadsTo : List View → ℕ → List Name → Fid → Type 0
LeadsTo views from names top = IsFound views from (root_of (volume_of views)) names top

-- they lead to no object so
abbrev pub LeadsNowhere : List View → ℕ → List Name → Type 0
LeadsNowhere views from names = (top : Fid) → LeadsTo views from names top → ⊥

-- whether the source has the object marked
abbrev pub is_marked_by : List View → ℕ → Fid → Bool
is_marked_by views from top = is_marked (finmap.get (held_by views from) top)

-- they lead to one that the source doesn't have marked
abbrev pub LeadsToUnmarked : List View → ℕ → List Name → Type 0
LeadsToUnmarked views from names = (top : Fid) × (LeadsTo views from names top × (is_marked_by views from top ≡ false))
