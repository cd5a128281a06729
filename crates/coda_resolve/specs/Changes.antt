-- What a resolution makes of each replica, and how much that is.
use Rattle.std.specs.Prelude.{◌≡◌, ◌≢◌, ◌↔◌, ℕ, true, not, List, [], ◌∷◌, ◌++◌, length, map, Option, Some, Bool}
use Rattle.std.specs.List.{AllZip, filter, list_any, IsDistinct}
use Rattle.std.specs.Ordering.{eq_by_cmp}
use Rattle.std.specs.Option.{option_map}
use Rattle.std.specs.FinMap as finmap
use Rattle.std.specs.FinMap.{is_sorted}
use Rattle.coda_fid.specs.Fid.{fid_cmp, same_fid}
use Rattle.coda_fid.specs.declared.fid.Fid.{Fid}
use Rattle.coda_tree.specs.declared.node.Node.{Node}
use Rattle.coda_reslog.specs.declared.change.Held.{Held}
use Rattle.coda_reslog.specs.declared.change.Change.{Change}
use Rattle.coda_resolve.specs.declared.why.Mark.{Mark}
use Rattle.coda_resolve.specs.Resolution.{Objects, Replicas, has_in}
use Rattle.coda_resolve.specs.Placement.{IsIn}
use Rattle.coda_resolve.specs.Trees.{IsInstalled}
use Rattle.coda_resolve.specs.Outcome.{marks_of}
use Rattle.coda_resolve.specs.Views.{objects_in}

-- ---- changes

-- whether the fid is among these
abbrev pub is_among : List Fid → Fid → Bool
is_among fids f = list_any (same_fid f) fids

-- what a replica holds after a change: what the change has, and besides what it held, but for what goes
abbrev pub changed : Objects → Change → Objects
changed view change = finmap.from_entries (change.held ++ finmap.entries (finmap.retain_keys view (λ f. not (is_among change.gone f))))

-- the change from one to the other has in order what the other holds anew or otherwise, and in order what it holds no more
pub record IsChange (old new : Objects) (change : Change) : Type 0 where
  pub in_order : is_sorted fid_cmp change.held ≡ true
  pub differs : (f : Fid) (held : Held) → (finmap.get (objects_in change.held) f ≡ Some held) ↔ ((finmap.get new f ≡ Some held) × (finmap.get old f ≢ Some held))
  pub goes : change.gone ≡ filter (λ f. not (has_in new f)) (finmap.keys old)

-- the change makes of the replica what a resolution leaves of it, and has nothing besides
pub record IsReplicaChange (views : Replicas) (root : Fid) (view : Objects) (change : Change) : Type 0 where
  pub installed : IsInstalled views root view (changed view change)
  pub exact : IsChange view (changed view change) change

-- they are the changes of the replicas, one for each
abbrev pub AreChanges : Replicas → Fid → List Change → Type 0
AreChanges views root changes = AllZip (IsReplicaChange views root) views changes

-- what the replicas hold after their changes
abbrev pub afterwards : Replicas → List Change → Replicas
afterwards [] changes = []
afterwards (view ∷ views) [] = []
afterwards (view ∷ views) (change ∷ changes) = changed view change ∷ afterwards views changes

-- ---- how many objects they touch

-- the node of what is held
abbrev pub node_of : Option Held → Option Node
node_of copy = option_map (λ (held : Held). held.node) copy

-- the nodes that the replicas have at a fid
abbrev pub nodes_at : Replicas → Fid → List (Option Node)
nodes_at views f = map (λ view. node_of (finmap.get view f)) views

-- some replica has another node there afterwards, or a new one, or none any more
abbrev pub IsTouched : Replicas → Replicas → Fid → Type 0
IsTouched views later f = nodes_at later f ≢ nodes_at views f

-- so many fids have the property
pub record IsCount (P : Fid → Type 0) (count : ℕ) : Type 0 where
  pub fids : List Fid
  pub distinct : IsDistinct (eq_by_cmp fid_cmp) fids
  pub each : (f : Fid) → IsIn f fids ↔ P f
  pub many : length fids ≡ count

-- ---- all of it

-- the changes of the replicas, the new marks in path order, and how many objects some replica has another node of afterwards
pub record IsOutcome (views : Replicas) (root : Fid) (changes : List Change) (marks : List Mark) (touched : ℕ) : Type 0 where
  pub all : AreChanges views root changes
  pub new : marks ≡ marks_of views root
  pub many : IsCount (IsTouched views (afterwards views changes)) touched
