-- Which objects paths lead to over what a client holds, and which operations may be taken up again: those that acceptance makes of some ask.
use Rattle.std.specs.Prelude.{◌≡◌, ℕ, true, List, ◌++◌, Option, Some, None, Ok, Contains}
use Rattle.std.specs.FinMap as map
use Rattle.coda_fid.specs.Fid.{root_of}
use Rattle.coda_fid.specs.declared.fid.Fid.{Fid}
use Rattle.coda_fid.specs.declared.op.Over.{Over}
use Rattle.coda_fid.specs.declared.op.Op.{Op}
use Rattle.coda_fid.specs.declared.op.Op.TheVariants.{Create, Mkdir, Symlink, Store, Setattr, Remove, Rmdir, Rename}
use Rattle.coda_tree.specs.declared.node.Node.{Node}
use Rattle.coda_tree.specs.Bindings.{Name, Bindings}
use Rattle.coda_tree.specs.Volume.{Nodes, bindings, has}
use Rattle.coda_venus.specs.Accepting.{Sight, new_under, store_at, setattr_at, remove_at, rmdir_at, bound_at, move_to, accept}
use Rattle.coda_venus.specs.Ask.{Asked, too_big, too_long}
use Rattle.coda_venus.specs.Held.{Held}
use Rattle.coda_venus.specs.Looking.{resolve, step_from}

-- some path leads to the object
abbrev pub IsReached : Nodes → ℕ → Fid → Type 0
IsReached m volume fid = (names : List Name) × (resolve m (root_of volume) names ≡ Ok fid)

-- these are the objects that paths lead to
pub record AreReached (m : Nodes) (volume : ℕ) (fids : List Fid) : Type 0 where
  pub each : (fid : Fid) → Contains fids fid → IsReached m volume fid
  pub all : (fid : Fid) → IsReached m volume fid → Contains fids fid

-- acceptance makes the operation of some ask
pub record IsAccepted (s : Sight) (volume : ℕ) (op : Op) : Type 0 where
  pub ask : Asked
  pub small : too_big ask ≡ None
  pub accepted : accept s volume ask ≡ Ok op

-- a rename of what is held is accepted so, by what stands at its new place
pub record MovesThere (h : Held) (from_dir : Fid) (from : Name) (to_dir : Fid) (to : Name) (fid : Fid) (over : Option Over) : Type 0 where
  pub bound : Option Fid
  pub step : step_from (map.get h.nodes from_dir) from_dir from ≡ Ok fid
  pub there : has h.nodes fid ≡ true
  pub place : bound_at h.nodes (map.get h.nodes to_dir) to_dir to ≡ Ok bound
  pub moves : move_to h from_dir from fid to (to_dir, bound) ≡ Ok (Rename from_dir from to_dir to fid over)

-- acceptance makes the operation where the paths lead that it names
abbrev pub IsMadeThere : Sight → ℕ → Op → Type 0
IsMadeThere s volume (Create dir name fid mode owner) = new_under s volume (map.get s.held.nodes dir) dir name ≡ Ok fid
IsMadeThere s volume (Mkdir dir name fid mode owner) = new_under s volume (map.get s.held.nodes dir) dir name ≡ Ok fid
IsMadeThere s volume (Symlink dir name fid target mode owner) = (new_under s volume (map.get s.held.nodes dir) dir name ≡ Ok fid) × (mode ≡ 511) × (owner ≡ 0)
IsMadeThere s volume (Store fid pre content) = (too_long content ≡ None) × (store_at (map.get s.held.nodes fid) fid content ≡ Ok (Store fid pre content))
IsMadeThere s volume (Setattr fid pre attrs) = setattr_at (map.get s.held.nodes fid) fid attrs ≡ Ok (Setattr fid pre attrs)
IsMadeThere s volume (Remove dir name fid pre) = (step_from (map.get s.held.nodes dir) dir name ≡ Ok fid) × (remove_at (map.get s.held.nodes fid) dir name fid ≡ Ok (Remove dir name fid pre))
IsMadeThere s volume (Rmdir dir name fid pre) = (step_from (map.get s.held.nodes dir) dir name ≡ Ok fid) × (rmdir_at s (map.get s.held.nodes fid) dir name fid ≡ Ok (Rmdir dir name fid pre))
IsMadeThere s volume (Rename from_dir from to_dir to fid over) = MovesThere s.held from_dir from to_dir to fid over

-- the objects that the paths of its ask lead to, or to whose directories they do
abbrev pub ArePlaced : Nodes → ℕ → Op → Type 0
ArePlaced m volume (Create dir name fid mode owner) = IsReached m volume dir
ArePlaced m volume (Mkdir dir name fid mode owner) = IsReached m volume dir
ArePlaced m volume (Symlink dir name fid target mode owner) = IsReached m volume dir
ArePlaced m volume (Store fid pre content) = IsReached m volume fid
ArePlaced m volume (Setattr fid pre attrs) = IsReached m volume fid
ArePlaced m volume (Remove dir name fid pre) = IsReached m volume dir
ArePlaced m volume (Rmdir dir name fid pre) = IsReached m volume dir
ArePlaced m volume (Rename from_dir from to_dir to fid over) = IsReached m volume from_dir × IsReached m volume to_dir

-- an object was put behind others, if it is held and isn't among them
pub record Meets (m : Nodes) (old : List Fid) (fid : Fid) (new : List Fid) : Type 0 where
  pub more : List Fid
  pub behind : new ≡ old ++ more
  pub only : (other : Fid) → Contains more other → (other ≡ fid) × (has m fid ≡ true)
  pub there : has m fid ≡ true → Contains new fid

-- what a node binds, where there is one
abbrev pub bound_by : Option Node → Bindings
bound_by None = map.empty
bound_by (Some node) = bindings node.kind

-- what entries bind and a client holds was put behind other objects
pub record Gathers (m : Nodes) (old : List Fid) (entries : Bindings) (new : List Fid) : Type 0 where
  pub more : List Fid
  pub behind : new ≡ old ++ more
  pub bound : (fid : Fid) → Contains more fid → (has m fid ≡ true) × ((name : Name) × (map.get entries name ≡ Some fid))
  pub all : (name : Name) (fid : Fid) → map.get entries name ≡ Some fid → has m fid ≡ true → Contains new fid
