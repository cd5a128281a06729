-- No disk has a part in what acceptance refuses.
use Rattle.std.proofs.Common.{ℕ, ◌==◌, ◌||◌, ◌&&◌, not, cond, Bool, true, false, List, [], ◌∷◌, Option, Some, None, is_some, Result, Ok, Err, sym, subst, inl, inr}
use Rattle.std.specs.Prelude.{IfErr}
use Rattle.std.specs.FinMap as map
use Rattle.coda_fid.specs.Fid.{root_of, same_fid}
use Rattle.coda_fid.specs.declared.fid.Fid.{Fid}
use Rattle.coda_fid.specs.declared.fid.Sid.{Sid}
use Rattle.coda_fid.specs.declared.op.Attrs.{Attrs}
use Rattle.coda_fid.specs.declared.op.Op.{Op}
use Rattle.coda_fid.specs.declared.op.Op.TheVariants.{Create as CreateOp, Mkdir as MkdirOp, Symlink as SymlinkOp, Rename as RenameOp}
use Rattle.coda_tree.specs.declared.node.Node.{Node}
use Rattle.coda_tree.specs.declared.node.NodeKind.{NodeKind}
use Rattle.coda_tree.specs.declared.node.NodeKind.TheVariants.{File, Link, Dir}
use Rattle.coda_tree.specs.Bindings.{Name}
use Rattle.coda_tree.specs.Volume.{Nodes}
use Rattle.coda_venus.specs.declared.refused.Refused.{Refused}
use Rattle.coda_venus.specs.declared.refused.Refused.TheVariants.{Exists, IsDir as IsADirectory, Loop, JournalFull}
use Rattle.coda_venus.specs.Ask.{Asked, Create, Mkdir, Symlink, Store, Setattr, Remove, Rmdir, Rename, Ending, ending}
use Rattle.coda_venus.specs.Held.{is_below, some_below}
use Rattle.coda_venus.specs.Looking.{then_find, held, found, step_in, step_from, resolve, OrMemory}
use Rattle.coda_venus.specs.Keeping.{IsOwn}
use Rattle.coda_venus.specs.Accepting.{Sight, next_fid, is_used_up, unless_used, new_fid, new_at, new_in, new_under, new_place, at_root, accept_creation, store_in, store_at, setattr_at, remove_in, remove_at, rmdir_of, rmdir_in, rmdir_at, spot, held_bound, bound_in, bound_at, place, is_dir_at, with_version, replaced_by, move_to, rename_to, rename_root, accept_rename, accept_remove, accept_rmdir, accept}

-- its refusal, if it is one, is its own
abbrev IsOwned : {A : Type 0} → Result A Refused → Type 0
IsOwned r = IfErr r IsOwn

own_then : {A B : Type 0} (r : Result A Refused) (next : A → Result B Refused) → IsOwned r → ((x : A) → IsOwned (next x)) → IsOwned (then_find r next)
own_then (Err why) next is rest = is
own_then (Ok x) next is rest = rest x

own_cond : {A : Type 0} (b : Bool) (x y : Result A Refused) → IsOwned x → IsOwned y → IsOwned (cond b x y)
own_cond true x y a c = a
own_cond false x y a c = c

-- ---- look-ups

own_held : (o : Option Node) (fid : Fid) → IsOwned (held o fid)
own_held None fid = tt
own_held (Some node) fid = tt

own_found : (o : Option Fid) → IsOwned (found o)
own_found None = tt
own_found (Some fid) = tt

own_step_in : (kind : NodeKind) (name : Name) → IsOwned (step_in kind name)
own_step_in (File content) name = tt
own_step_in (Link target) name = tt
own_step_in (Dir entries) name = own_found (map.get entries name)

own_step : (o : Option Node) (at : Fid) (name : Name) → IsOwned (step_from o at name)
own_step None at name = tt
own_step (Some node) at name = own_step_in node.kind name

own_resolve : (m : Nodes) (at : Fid) (names : List Name) → IsOwned (resolve m at names)
own_resolve m at [] = own_held (map.get m at) at
own_resolve m at (name ∷ names) = own_then (step_from (map.get m at) at name) (λ next. resolve m next names) (own_step (map.get m at) at name) (λ next. own_resolve m next names)

module _ (s : Sight) (volume : ℕ) where
  own_root : (why : Refused) → IsOwn why → IsOwned (at_root s volume why)
  own_root why is = own_then (held (map.get s.held.nodes (root_of volume)) (root_of volume)) (λ _. Err why) (own_held (map.get s.held.nodes (root_of volume)) (root_of volume)) (λ _. is)

  -- ---- creations

  own_unless : (used : Bool) (fid : Fid) → IsOwned (unless_used used fid)
  own_unless true fid = tt
  own_unless false fid = tt

  own_fid : IsOwned (new_fid s volume)
  own_fid = own_cond (is_used_up s) (Err JournalFull) (unless_used (is_some (map.get s.held.nodes (next_fid s volume))) (next_fid s volume)) tt (own_unless (is_some (map.get s.held.nodes (next_fid s volume))) (next_fid s volume))

  own_at : (o : Option Fid) → IsOwned (new_at s volume o)
  own_at None = own_fid
  own_at (Some fid) = tt

  own_in : (kind : NodeKind) (name : Name) → IsOwned (new_in s volume kind name)
  own_in (File content) name = tt
  own_in (Link target) name = tt
  own_in (Dir entries) name = own_at (map.get entries name)

  own_under : (o : Option Node) (dir : Fid) (name : Name) → IsOwned (new_under s volume o dir name)
  own_under None dir name = tt
  own_under (Some node) dir name = own_in node.kind name

  own_place : (e : List Name × Name) → IsOwned (new_place s volume e)
  own_place e = own_then (resolve s.held.nodes (root_of volume) e.0) _ (own_resolve s.held.nodes (root_of volume) e.0)
      (λ dir. own_then (new_under s volume (map.get s.held.nodes dir) dir e.1) _ (own_under (map.get s.held.nodes dir) dir e.1) (λ fid. tt))

  own_creation : (e : Ending) (make : Fid → Name → Fid → Op) → IsOwned (accept_creation s volume e make)
  own_creation None make = own_root Exists tt
  own_creation (Some e) make = own_then (new_place s volume e) _ (own_place e) (λ p. tt)

  -- ---- operations on an object

  own_store_in : (kind : NodeKind) (fid : Fid) (pre : Sid) (content : List ℕ) → IsOwned (store_in kind fid pre content)
  own_store_in (File old) fid pre content = tt
  own_store_in (Link target) fid pre content = tt
  own_store_in (Dir entries) fid pre content = tt

  own_store : (o : Option Node) (fid : Fid) (content : List ℕ) → IsOwned (store_at o fid content)
  own_store None fid content = tt
  own_store (Some node) fid content = own_store_in node.kind fid node.sid content

  own_setattr : (o : Option Node) (fid : Fid) (attrs : Attrs) → IsOwned (setattr_at o fid attrs)
  own_setattr None fid attrs = tt
  own_setattr (Some node) fid attrs = tt

  own_remove_in : (kind : NodeKind) (dir : Fid) (name : Name) (fid : Fid) (pre : Sid) → IsOwned (remove_in kind dir name fid pre)
  own_remove_in (File content) dir name fid pre = tt
  own_remove_in (Link target) dir name fid pre = tt
  own_remove_in (Dir entries) dir name fid pre = tt

  own_remove : (o : Option Node) (dir : Fid) (name : Name) (fid : Fid) → IsOwned (remove_at o dir name fid)
  own_remove None dir name fid = tt
  own_remove (Some node) dir name fid = own_remove_in node.kind dir name fid node.sid

  own_rmdir_of : (may : Bool) (dir : Fid) (name : Name) (fid : Fid) (pre : Sid) → IsOwned (rmdir_of may dir name fid pre)
  own_rmdir_of true dir name fid pre = tt
  own_rmdir_of false dir name fid pre = tt

  own_rmdir_in : (kind : NodeKind) (dir : Fid) (name : Name) (fid : Fid) (pre : Sid) → IsOwned (rmdir_in s kind dir name fid pre)
  own_rmdir_in (File content) dir name fid pre = tt
  own_rmdir_in (Link target) dir name fid pre = tt
  own_rmdir_in (Dir entries) dir name fid pre = own_rmdir_of ((map.len entries == 0) && not (some_below s.held s.is_dirty fid)) dir name fid pre

  own_rmdir : (o : Option Node) (dir : Fid) (name : Name) (fid : Fid) → IsOwned (rmdir_at s o dir name fid)
  own_rmdir None dir name fid = tt
  own_rmdir (Some node) dir name fid = own_rmdir_in node.kind dir name fid node.sid

  own_spot : (e : List Name × Name) → IsOwned (spot s.held.nodes volume e)
  own_spot e = own_then (resolve s.held.nodes (root_of volume) e.0) _ (own_resolve s.held.nodes (root_of volume) e.0)
      (λ dir. own_then (step_from (map.get s.held.nodes dir) dir e.1) _ (own_step (map.get s.held.nodes dir) dir e.1) (λ fid. own_then (held (map.get s.held.nodes fid) fid) _ (own_held (map.get s.held.nodes fid) fid) (λ there. tt)))

  -- ---- renames

  own_held_bound : (o : Option Fid) → IsOwned (held_bound s.held.nodes o)
  own_held_bound None = tt
  own_held_bound (Some fid) = own_then (held (map.get s.held.nodes fid) fid) _ (own_held (map.get s.held.nodes fid) fid) (λ there. tt)

  own_bound_in : (kind : NodeKind) (name : Name) → IsOwned (bound_in s.held.nodes kind name)
  own_bound_in (File content) name = tt
  own_bound_in (Link target) name = tt
  own_bound_in (Dir entries) name = own_held_bound (map.get entries name)

  own_bound : (o : Option Node) (dir : Fid) (name : Name) → IsOwned (bound_at s.held.nodes o dir name)
  own_bound None dir name = tt
  own_bound (Some node) dir name = own_bound_in node.kind name

  own_to : (e : List Name × Name) → IsOwned (place s.held.nodes volume e)
  own_to e = own_then (resolve s.held.nodes (root_of volume) e.0) _ (own_resolve s.held.nodes (root_of volume) e.0)
      (λ dir. own_then (bound_at s.held.nodes (map.get s.held.nodes dir) dir e.1) _ (own_bound (map.get s.held.nodes dir) dir e.1) (λ bound. tt))

  own_version : (o : Option Node) (old : Fid) → IsOwned (with_version o old)
  own_version None old = tt
  own_version (Some node) old = tt

  own_replaced : (fid : Fid) (o : Option Fid) → IsOwned (replaced_by s.held.nodes fid o)
  own_replaced fid None = tt
  own_replaced fid (Some old) = own_cond (same_fid old fid || (is_dir_at (map.get s.held.nodes fid) || is_dir_at (map.get s.held.nodes old))) (Err Exists) (with_version (map.get s.held.nodes old) old) tt (own_version (map.get s.held.nodes old) old)

  own_move : (from_dir : Fid) (from : Name) (fid : Fid) (to : Name) (p : Fid × Option Fid) → IsOwned (move_to s.held from_dir from fid to p)
  own_move from_dir from fid to p = own_cond (is_below s.held.parents p.0 fid) (Err Loop) _ tt (own_then (replaced_by s.held.nodes fid p.1) (λ over. Ok (RenameOp from_dir from p.0 to fid over)) (own_replaced fid p.1) (λ over. tt))

  own_rename_to : (from_dir : Fid) (from : Name) (fid : Fid) (to : Ending) → IsOwned (rename_to s volume from_dir from fid to)
  own_rename_to from_dir from fid None = own_root Exists tt
  own_rename_to from_dir from fid (Some e) = own_then (place s.held.nodes volume e) _ (own_to e) (λ p. own_move from_dir from fid e.1 p)

  own_rename_root : (to : Ending) → IsOwned (rename_root s volume to)
  own_rename_root None = own_root Loop tt
  own_rename_root (Some e) = own_then (place s.held.nodes volume e) _ (own_to e) (λ p. tt)

  -- ---- every kind

  own_by_rename : (from to : Ending) → IsOwned (accept_rename s volume from to)
  own_by_rename None to = own_then (held (map.get s.held.nodes (root_of volume)) (root_of volume)) _ (own_held (map.get s.held.nodes (root_of volume)) (root_of volume)) (λ _. own_rename_root to)
  own_by_rename (Some e) to = own_then (spot s.held.nodes volume e) _ (own_spot e) (λ at. own_rename_to at.0 e.1 at.1 to)

  own_by_remove : (e : Ending) → IsOwned (accept_remove s volume e)
  own_by_remove None = own_root IsADirectory tt
  own_by_remove (Some e) = own_then (spot s.held.nodes volume e) _ (own_spot e) (λ at. own_remove (map.get s.held.nodes at.1) at.0 e.1 at.1)

  own_by_rmdir : (e : Ending) → IsOwned (accept_rmdir s volume e)
  own_by_rmdir None = own_root Loop tt
  own_by_rmdir (Some e) = own_then (spot s.held.nodes volume e) _ (own_spot e) (λ at. own_rmdir (map.get s.held.nodes at.1) at.0 e.1 at.1)

  own_accept : (ask : Asked) → IsOwned (accept s volume ask)
  unfolding accept
  own_accept (Create path mode owner) = own_creation (ending path) (λ dir name fid. CreateOp dir name fid mode owner)
  own_accept (Mkdir path mode owner) = own_creation (ending path) (λ dir name fid. MkdirOp dir name fid mode owner)
  own_accept (Symlink path target) = own_creation (ending path) (λ dir name fid. SymlinkOp dir name fid target 511 0)
  own_accept (Store path content) = own_then (resolve s.held.nodes (root_of volume) path) _ (own_resolve s.held.nodes (root_of volume) path) (λ fid. own_store (map.get s.held.nodes fid) fid content)
  own_accept (Setattr path attrs) = own_then (resolve s.held.nodes (root_of volume) path) _ (own_resolve s.held.nodes (root_of volume) path) (λ fid. own_setattr (map.get s.held.nodes fid) fid attrs)
  own_accept (Remove path) = own_by_remove (ending path)
  own_accept (Rmdir path) = own_by_rmdir (ending path)
  own_accept (Rename from to) = own_by_rename (ending from) (ending to)

  -- what answers as acceptance does, or wants memory
  pub own_or_memory : (ask : Asked) (result : Result Op Refused) → OrMemory result (accept s volume ask) → IfErr result IsOwn
  own_or_memory ask result (inl is) = subst IsOwned (sym is) tt
  own_or_memory ask result (inr is) = subst IsOwned (sym is) (own_accept ask)
