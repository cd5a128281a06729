-- A rename that is accepted moves nothing below itself.
use Rattle.std.proofs.Common.{◌≡◌, ℕ, Bool, true, false, cond, ◌&&◌, List, ◌==◌, Option, Some, None, Ok, Err, refl, subst}
use Rattle.std.specs.Prelude.{not}
use Rattle.std.specs.FinMap as map
use Rattle.coda_fid.specs.Fid.{root_of}
use Rattle.coda_fid.specs.declared.fid.Fid.{Fid}
use Rattle.coda_fid.specs.declared.fid.Sid.{Sid}
use Rattle.coda_fid.specs.declared.op.Attrs.{Attrs}
use Rattle.coda_fid.specs.declared.op.Op.{Op}
use Rattle.coda_fid.specs.declared.op.Op.TheVariants.{Create as CreateOp, Mkdir as MkdirOp, Symlink as SymlinkOp, Store as StoreOp, Setattr as SetattrOp, Remove as RemoveOp, Rmdir as RmdirOp, Rename as RenameOp}
use Rattle.coda_tree.specs.declared.node.Node.{Node}
use Rattle.coda_tree.specs.declared.node.NodeKind.{NodeKind}
use Rattle.coda_tree.specs.declared.node.NodeKind.TheVariants.{File, Link, Dir}
use Rattle.coda_tree.specs.Bindings.{Name}
use Rattle.coda_venus.specs.declared.refused.Refused.TheVariants.{Exists, IsDir as IsADirectory, Loop}
use Rattle.coda_venus.specs.Ask.{Asked, Create, Mkdir, Symlink, Store, Setattr, Remove, Rmdir, Rename, Ending, ending}
use Rattle.coda_venus.specs.Held.{Parents, is_below, some_below}
use Rattle.coda_venus.specs.Looking.{then_find, held, resolve}
use Rattle.coda_venus.specs.Accepting.{Accepted, Sight, new_place, accept_creation, store_in, store_at, setattr_at, remove_in, remove_at, rmdir_of, rmdir_in, rmdir_at, spot, place, replaced_by, move_to, rename_to, rename_root, accept_rename, accept_remove, accept_rmdir, accept}
use Rattle.coda_venus.proofs.Accepted.{found_then, ok_is, not_at_root, root_stays}

-- the directory into which a rename moves an object isn't the object, nor below it
abbrev pub IsApart : Parents → Op → Type 0
IsApart parents (RenameOp from_dir from to_dir to fid over) = is_below parents to_dir fid ≡ false
IsApart parents op = Unit {0}

above : (below : Bool) (r : Accepted) (op : Op) → cond below (Err Loop) r ≡ Ok op → (below ≡ false) × (r ≡ Ok op)
above true r op h = cc
above false r op h = (refl, h)

module _ (s : Sight) (volume : ℕ) (op : Op) where
  abbrev Apart : Type 0
  Apart = IsApart s.held.parents op

  -- it is another operation
  other_than : (other : Op) → IsApart s.held.parents other → (let ok : Op → Accepted = λ o. Ok o in ok other ≡ ok op) → Apart
  other_than other apart is = subst (IsApart s.held.parents) (ok_is other op is) apart

  created : (e : Ending) (make : Fid → Name → Fid → Op) → ((dir : Fid) (name : Name) (fid : Fid) → IsApart s.held.parents (make dir name fid)) → accept_creation s volume e make ≡ Ok op → Apart
  created None make apart h = absurd (not_at_root s volume Exists op h)
  created (Some e) make apart h =
      let a = found_then (new_place s volume e) (λ p. Ok (make p.0 e.1 p.1)) op h in
      other_than (make a.0.0 e.1 a.0.1) (apart a.0.0 e.1 a.0.1) a.2

  stored : (kind : NodeKind) (fid : Fid) (pre : Sid) (content : List ℕ) → store_in kind fid pre content ≡ Ok op → Apart
  stored (File old) fid pre content h = other_than (StoreOp fid pre content) tt h
  stored (Link target) fid pre content h = cc
  stored (Dir entries) fid pre content h = cc

  stored_at : (o : Option Node) (fid : Fid) (content : List ℕ) → store_at o fid content ≡ Ok op → Apart
  stored_at None fid content h = cc
  stored_at (Some node) fid content h = stored node.kind fid node.sid content h

  changed_at : (o : Option Node) (fid : Fid) (attrs : Attrs) → setattr_at o fid attrs ≡ Ok op → Apart
  changed_at None fid attrs h = cc
  changed_at (Some node) fid attrs h = other_than (SetattrOp fid node.sid attrs) tt h

  removed : (kind : NodeKind) (dir : Fid) (name : Name) (fid : Fid) (pre : Sid) → remove_in kind dir name fid pre ≡ Ok op → Apart
  removed (File content) dir name fid pre h = other_than (RemoveOp dir name fid pre) tt h
  removed (Link target) dir name fid pre h = other_than (RemoveOp dir name fid pre) tt h
  removed (Dir entries) dir name fid pre h = cc

  removed_at : (o : Option Node) (dir : Fid) (name : Name) (fid : Fid) → remove_at o dir name fid ≡ Ok op → Apart
  removed_at None dir name fid h = cc
  removed_at (Some node) dir name fid h = removed node.kind dir name fid node.sid h

  emptied : (empty : Bool) (dir : Fid) (name : Name) (fid : Fid) (pre : Sid) → rmdir_of empty dir name fid pre ≡ Ok op → Apart
  emptied true dir name fid pre h = other_than (RmdirOp dir name fid pre) tt h
  emptied false dir name fid pre h = cc

  emptied_in : (kind : NodeKind) (dir : Fid) (name : Name) (fid : Fid) (pre : Sid) → rmdir_in s kind dir name fid pre ≡ Ok op → Apart
  emptied_in (File content) dir name fid pre h = cc
  emptied_in (Link target) dir name fid pre h = cc
  emptied_in (Dir entries) dir name fid pre h = emptied ((map.len entries == 0) && not (some_below s.held s.is_dirty fid)) dir name fid pre h

  emptied_at : (o : Option Node) (dir : Fid) (name : Name) (fid : Fid) → rmdir_at s o dir name fid ≡ Ok op → Apart
  emptied_at None dir name fid h = cc
  emptied_at (Some node) dir name fid h = emptied_in node.kind dir name fid node.sid h

  moved : (from_dir : Fid) (from : Name) (fid : Fid) (to : Name) (p : Fid × Option Fid) → move_to s.held from_dir from fid to p ≡ Ok op → Apart
  moved from_dir from fid to p h =
      let a = above (is_below s.held.parents p.0 fid) (then_find (replaced_by s.held.nodes fid p.1) (λ over. Ok (RenameOp from_dir from p.0 to fid over))) op h in
      let b = found_then (replaced_by s.held.nodes fid p.1) (λ over. Ok (RenameOp from_dir from p.0 to fid over)) op a.1 in
      other_than (RenameOp from_dir from p.0 to fid b.0) a.0 b.2

  renamed : (from_dir : Fid) (from : Name) (fid : Fid) (to : Ending) → rename_to s volume from_dir from fid to ≡ Ok op → Apart
  renamed from_dir from fid None h = absurd (not_at_root s volume Exists op h)
  renamed from_dir from fid (Some e) h =
      let a = found_then (place s.held.nodes volume e) (λ p. move_to s.held from_dir from fid e.1 p) op h in
      moved from_dir from fid e.1 a.0 a.2

  rename_apart : (from to : Ending) → accept_rename s volume from to ≡ Ok op → Apart
  rename_apart None to h =
      let a = found_then (held (map.get s.held.nodes (root_of volume)) (root_of volume)) (λ _. rename_root s volume to) op h in
      absurd (root_stays s volume to op a.2)
  rename_apart (Some e) to h =
      let a = found_then (spot s.held.nodes volume e) (λ at. rename_to s volume at.0 e.1 at.1 to) op h in
      renamed a.0.0 e.1 a.0.1 to a.2

  remove_apart : (e : Ending) → accept_remove s volume e ≡ Ok op → Apart
  remove_apart None h = absurd (not_at_root s volume IsADirectory op h)
  remove_apart (Some e) h =
      let a = found_then (spot s.held.nodes volume e) (λ at. remove_at (map.get s.held.nodes at.1) at.0 e.1 at.1) op h in
      removed_at (map.get s.held.nodes a.0.1) a.0.0 e.1 a.0.1 a.2

  rmdir_apart : (e : Ending) → accept_rmdir s volume e ≡ Ok op → Apart
  rmdir_apart None h = absurd (not_at_root s volume Loop op h)
  rmdir_apart (Some e) h =
      let a = found_then (spot s.held.nodes volume e) (λ at. rmdir_at s (map.get s.held.nodes at.1) at.0 e.1 at.1) op h in
      emptied_at (map.get s.held.nodes a.0.1) a.0.0 e.1 a.0.1 a.2

-- what is accepted moves nothing below itself
pub accepted_apart : (s : Sight) (volume : ℕ) (ask : Asked) (op : Op) → accept s volume ask ≡ Ok op → IsApart s.held.parents op
unfolding accept
accepted_apart s volume (Create path mode owner) op h = created s volume op (ending path) (λ dir name fid. CreateOp dir name fid mode owner) (λ dir name fid. tt) h
accepted_apart s volume (Mkdir path mode owner) op h = created s volume op (ending path) (λ dir name fid. MkdirOp dir name fid mode owner) (λ dir name fid. tt) h
accepted_apart s volume (Symlink path target) op h = created s volume op (ending path) (λ dir name fid. SymlinkOp dir name fid target 511 0) (λ dir name fid. tt) h
accepted_apart s volume (Store path content) op h =
    let a = found_then (resolve s.held.nodes (root_of volume) path) (λ fid. store_at (map.get s.held.nodes fid) fid content) op h in
    stored_at s volume op (map.get s.held.nodes a.0) a.0 content a.2
accepted_apart s volume (Setattr path attrs) op h =
    let a = found_then (resolve s.held.nodes (root_of volume) path) (λ fid. setattr_at (map.get s.held.nodes fid) fid attrs) op h in
    changed_at s volume op (map.get s.held.nodes a.0) a.0 attrs a.2
accepted_apart s volume (Remove path) op h = remove_apart s volume op (ending path) h
accepted_apart s volume (Rmdir path) op h = rmdir_apart s volume op (ending path) h
accepted_apart s volume (Rename from to) op h = rename_apart s volume op (ending from) (ending to) h
