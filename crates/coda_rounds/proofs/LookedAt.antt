-- An operation that is accepted looked up what it takes out and what it moves.
use Rattle.std.proofs.Common.{◌≡◌, ℕ, ◌==◌, ◌&&◌, ◌||◌, not, Bool, true, false, List, Option, Some, None}
use Rattle.std.proofs.Common.{option_map, Ok, refl, sym, ap, ◌∙◌, subst}
use Rattle.std.proofs.lemmas.Bool.{or_left, or_right}
use Rattle.std.proofs.lemmas.Option.{none-some, same_Some}
use Rattle.std.specs.FinMap as map
use Rattle.coda_fid.specs.Fid.{root_of, same_fid}
use Rattle.coda_fid.specs.declared.fid.Fid.{Fid}
use Rattle.coda_fid.specs.declared.op.Over.{Over}
use Rattle.coda_fid.specs.declared.op.Op.{Op}
use Rattle.coda_fid.specs.declared.op.Op.TheVariants.{Create as CreateOp, Mkdir as MkdirOp, Symlink as SymlinkOp}
use Rattle.coda_fid.specs.declared.op.Op.TheVariants.{Store as StoreOp, Setattr as SetattrOp, Remove as RemoveOp}
use Rattle.coda_fid.specs.declared.op.Op.TheVariants.{Rmdir as RmdirOp, Rename as RenameOp}
use Rattle.coda_tree.specs.declared.node.Node.{Node}
use Rattle.coda_tree.specs.declared.node.NodeKind.{NodeKind}
use Rattle.coda_tree.specs.declared.node.NodeKind.TheVariants.{File, Link, Dir}
use Rattle.coda_tree.specs.Bindings.{Name}
use Rattle.coda_tree.specs.Volume.{Nodes}
use Rattle.coda_walk.specs.Going.{is_listed}
use Rattle.coda_cache.specs.Steps.{taken_out, moved_node}
use Rattle.coda_venus.specs.declared.refused.Refused.TheVariants.{Exists, IsDir, Loop}
use Rattle.coda_venus.specs.Accepting.{Accepted, Sight, new_place, accept_creation, store_in, store_at, setattr_at}
use Rattle.coda_venus.specs.Accepting.{remove_in, remove_at, rmdir_of, rmdir_in, rmdir_at, spot, place, is_dir_at}
use Rattle.coda_venus.specs.Accepting.{with_version, replaced_by, move_to, rename_to, rename_root, accept_rename}
use Rattle.coda_venus.specs.Accepting.{accept_remove, accept_rmdir, accept}
use Rattle.coda_venus.specs.Ask.{Asked, Create, Mkdir, Symlink, Store, Setattr, Remove, Rmdir, Rename, Ending, ending}
use Rattle.coda_venus.specs.Held.{is_below, some_below}
use Rattle.coda_venus.specs.Looking.{then_find, held, resolve}
use Rattle.coda_venus.proofs.Accepted.{found_then, not_at_root, ok_is, root_stays, unless_is, unless_below}
use Rattle.coda_venus.specs.Serving.{look_on, looked_up, looked_up_to_rename, looked_up_for}
use Rattle.coda_rounds.proofs.LookedUp.{last_listed, resolve_more, IsSpot, spot_parts, place_parts}
use Rattle.coda_rounds.proofs.LookedUp.{place_listed, path_is}
use Rattle.coda_rounds.proofs.Replies.{listed_behind}

-- what an operation takes out and what it moves are among the fids
pub record Looks (looked : List Fid) (op : Op) : Type 0 where
  pub taken : (f : Fid) → taken_out op ≡ Some f → is_listed looked f ≡ true
  pub moved : (f dir : Fid) → moved_node op ≡ Some (f, dir) → is_listed looked f ≡ true

neither : (looked : List Fid) (op : Op) → taken_out op ≡ None → moved_node op ≡ None → Looks looked op
neither looked op out in_place = record {
  taken = λ f e. absurd (none-some f (sym out ∙ e));
  moved = λ f dir e. absurd (none-some (f, dir) (sym in_place ∙ e));
}

takes_one : (looked : List Fid) (op : Op) (fid : Fid) → taken_out op ≡ Some fid → moved_node op ≡ None
    → is_listed looked fid ≡ true → Looks looked op
takes_one looked op fid out in_place on = record {
  taken = λ f e. subst (λ x. is_listed looked x ≡ true) (same_Some fid f (sym out ∙ e)) on;
  moved = λ f dir e. absurd (none-some (f, dir) (sym in_place ∙ e));
}

module _ (s : Sight) (volume : ℕ) (looked : List Fid) where
  abbrev S : Nodes
  S = s.held.nodes

  abbrev along : List Name → List Fid
  along path = looked_up S (root_of volume) path

  creation_looks : (e : Ending) (make : Fid → Name → Fid → Op) (op : Op)
      → ((dir : Fid) (name : Name) (fid : Fid) → Looks looked (make dir name fid))
      → accept_creation s volume e make ≡ Ok op → Looks looked op
  creation_looks None make op each h = absurd (not_at_root s volume Exists op h)
  creation_looks (Some e) make op each h =
      let a = found_then (new_place s volume e) (λ p. let ok : Op → Accepted = λ z. Ok z in ok (make p.0 e.1 p.1)) op h in
      subst (Looks looked) (ok_is (make a.0.0 e.1 a.0.1) op a.2) (each a.0.0 e.1 a.0.1)

  store_looks : (o : Option Node) (fid : Fid) (content : List ℕ) (op : Op) → store_at o fid content ≡ Ok op
      → Looks looked op
  store_looks None fid content op h = absurd (cc)
  store_looks (Some node) fid content op h = by node.kind h
    where
      by : (kind : NodeKind) → store_in kind fid node.sid content ≡ Ok op → Looks looked op
      by (File old) h =
          subst (Looks looked) (ok_is (StoreOp fid node.sid content) op h)
          (neither looked (StoreOp fid node.sid content) refl refl)
      by (Link target) h = absurd (cc)
      by (Dir entries) h = absurd (cc)

  setattr_looks : (o : Option Node) (fid : Fid) (attrs : _) (op : Op) → setattr_at o fid attrs ≡ Ok op → Looks looked op
  setattr_looks None fid attrs op h = absurd (cc)
  setattr_looks (Some node) fid attrs op h =
      subst (Looks looked) (ok_is (SetattrOp fid node.sid attrs) op h)
      (neither looked (SetattrOp fid node.sid attrs) refl refl)

  remove_looks : (o : Option Node) (dir : Fid) (name : Name) (fid : Fid) (op : Op) → is_listed looked fid ≡ true
      → remove_at o dir name fid ≡ Ok op → Looks looked op
  remove_looks None dir name fid op on h = absurd (cc)
  remove_looks (Some node) dir name fid op on h = by node.kind h
    where
      one : (let ok : Op → Accepted = λ z. Ok z in ok (RemoveOp dir name fid node.sid) ≡ ok op) → Looks looked op
      one h =
          subst (Looks looked) (ok_is (RemoveOp dir name fid node.sid) op h)
          (takes_one looked (RemoveOp dir name fid node.sid) fid refl refl on)

      by : (kind : NodeKind) → remove_in kind dir name fid node.sid ≡ Ok op → Looks looked op
      by (File content) h = one h
      by (Link target) h = one h
      by (Dir entries) h = absurd (cc)

  rmdir_looks : (o : Option Node) (dir : Fid) (name : Name) (fid : Fid) (op : Op) → is_listed looked fid ≡ true
      → rmdir_at s o dir name fid ≡ Ok op → Looks looked op
  rmdir_looks None dir name fid op on h = absurd (cc)
  rmdir_looks (Some node) dir name fid op on h = by node.kind h
    where
      one : (b : Bool) → rmdir_of b dir name fid node.sid ≡ Ok op → Looks looked op
      one true h =
          subst (Looks looked) (ok_is (RmdirOp dir name fid node.sid) op h)
          (takes_one looked (RmdirOp dir name fid node.sid) fid refl refl on)
      one false h = absurd (cc)

      by : (kind : NodeKind) → rmdir_in s kind dir name fid node.sid ≡ Ok op → Looks looked op
      by (File content) h = absurd (cc)
      by (Link target) h = absurd (cc)
      by (Dir entries) h = one ((map.len entries == 0) && not (some_below s.held s.is_dirty fid)) h

  -- ---- renames

  over_looks : (o : Option Fid) (fid : Fid) (over : Option Over) → replaced_by S fid o ≡ Ok over
      → ((old : Fid) → o ≡ Some old → is_listed looked old ≡ true) → (f : Fid)
      → option_map (λ (v : Over). v.fid) over ≡ Some f → is_listed looked f ≡ true
  over_looks None fid over h on f e =
      absurd (none-some f (ap (option_map (λ (v : Over). v.fid)) (ok_is None over h) ∙ e))
  over_looks (Some old) fid over h on f e =
      by (map.get S old) (unless_is (same_fid old fid || (is_dir_at (map.get S fid) || is_dir_at (map.get S old)))
      (with_version (map.get S old) old) over h).1
    where
      by : (o : Option Node) → with_version o old ≡ Ok over → is_listed looked f ≡ true
      by None v = absurd (cc)
      by (Some node) v =
          let same : Some old ≡ Some f = ap (option_map (λ (w : Over). w.fid)) (ok_is (Some (record { fid = old; pre = node.sid })) over v) ∙ e in
          subst (λ x. is_listed looked x ≡ true) (same_Some old f same) (on old refl)

  move_looks : (from_dir : Fid) (from : Name) (fid : Fid) (to : Name) (p : Fid × Option Fid) (op : Op)
      → is_listed looked fid ≡ true → ((old : Fid) → p.1 ≡ Some old → is_listed looked old ≡ true)
      → move_to s.held from_dir from fid to p ≡ Ok op → Looks looked op
  move_looks from_dir from fid to p op on also h =
      let done : Option Over → Accepted = λ over. Ok (RenameOp from_dir from p.0 to fid over) in
      let a = unless_below (is_below s.held.parents p.0 fid) (then_find (replaced_by S fid p.1) done) op h in
      let b = found_then (replaced_by S fid p.1) done op a in
      subst (Looks looked) (ok_is (RenameOp from_dir from p.0 to fid b.0) op b.2) (record {
        taken = λ f e. over_looks p.1 fid b.0 b.1 also f e;
        moved = λ f dir e. subst (λ x. is_listed looked x ≡ true)
            (ap (λ (x : Fid × Fid). x.0) (same_Some (fid, p.0) (f, dir) e)) on;
      })

  rename_to_looks : (from_dir : Fid) (from : Name) (fid : Fid) (path : List Name) (e : Ending) (op : Op)
      → ending path ≡ e → is_listed looked fid ≡ true
      → ((f : Fid) → is_listed (along path) f ≡ true → is_listed looked f ≡ true)
      → rename_to s volume from_dir from fid e ≡ Ok op → Looks looked op
  rename_to_looks from_dir from fid path None op ends on within h = absurd (not_at_root s volume Exists op h)
  rename_to_looks from_dir from fid path (Some e) op ends on within h =
      let a = found_then (place S volume e) (λ p. move_to s.held from_dir from fid e.1 p) op h in
      let is = place_parts S volume e a.0 a.1 in
      move_looks from_dir from fid e.1 a.0 op on
      (λ old bound. within old (ap (λ l. is_listed (along l) old) (path_is path e ends)
      ∙ place_listed S volume e a.0 is old bound)) a.2

  -- the object of a spot is looked up
  spot_listed : (path : List Name) (e : List Name × Name) (at : Fid × Fid) → ending path ≡ Some e → IsSpot S volume e at
      → is_listed (along path) at.1 ≡ true
  spot_listed path e at ends is =
      ap (λ l. is_listed (along l) at.1) (path_is path e ends)
      ∙ last_listed S (root_of volume) e.0 e.1 at.0 at.1 is.front is.step

  rename_looks : (from to : List Name) (e : Ending) (op : Op) → ending from ≡ e
      → ((f : Fid) → is_listed (looked_up_to_rename S volume from to) f ≡ true → is_listed looked f ≡ true)
      → accept_rename s volume e (ending to) ≡ Ok op → Looks looked op
  rename_looks from to None op ends within h = let a = found_then (held (map.get S (root_of volume)) (root_of volume)) (λ _. rename_root s volume (ending to)) op h in absurd (root_stays s volume (ending to) op a.2)
  rename_looks from to (Some e) op ends within h =
      let path = path_is from e ends in
      let a = found_then (spot S volume e) (λ at. rename_to s volume at.0 e.1 at.1 (ending to)) op h in
      let is = spot_parts S volume e a.0 a.1 in
      let leads : resolve S (root_of volume) from ≡ Ok a.0.1 = ap (resolve S (root_of volume)) path ∙ resolve_more S (root_of volume) e.0 e.1 a.0.0 a.0.1 is.front is.step is.there in
      let parted : (f : Fid) → is_listed (looked_up_to_rename S volume from to) f ≡ (is_listed (along from) f || is_listed (look_on (resolve S (root_of volume) from) (λ x. along to)) f) = λ f. listed_behind f (along from) (look_on (resolve S (root_of volume) from) (λ x. along to)) in
      rename_to_looks a.0.0 e.1 a.0.1 to (ending to) op refl
      (within a.0.1 (parted a.0.1 ∙ or_left (is_listed (along from) a.0.1) _ (spot_listed from e a.0 ends is)))
      (λ f on. within f (parted f ∙ or_right (is_listed (along from) f) _
      (ap (λ r. is_listed (look_on r (λ x. along to)) f) leads ∙ on))) a.2

  -- ---- every kind

  remove_all_looks : (path : List Name) (e : Ending) (op : Op) → ending path ≡ e
      → ((f : Fid) → is_listed (along path) f ≡ true → is_listed looked f ≡ true) → accept_remove s volume e ≡ Ok op
      → Looks looked op
  remove_all_looks path None op ends within h = absurd (not_at_root s volume IsDir op h)
  remove_all_looks path (Some e) op ends within h =
      let a = found_then (spot S volume e) (λ at. remove_at (map.get S at.1) at.0 e.1 at.1) op h in
      remove_looks (map.get S a.0.1) a.0.0 e.1 a.0.1 op
      (within a.0.1 (spot_listed path e a.0 ends (spot_parts S volume e a.0 a.1))) a.2

  rmdir_all_looks : (path : List Name) (e : Ending) (op : Op) → ending path ≡ e
      → ((f : Fid) → is_listed (along path) f ≡ true → is_listed looked f ≡ true) → accept_rmdir s volume e ≡ Ok op
      → Looks looked op
  rmdir_all_looks path None op ends within h = absurd (not_at_root s volume Loop op h)
  rmdir_all_looks path (Some e) op ends within h =
      let a = found_then (spot S volume e) (λ at. rmdir_at s (map.get S at.1) at.0 e.1 at.1) op h in
      rmdir_looks (map.get S a.0.1) a.0.0 e.1 a.0.1 op
      (within a.0.1 (spot_listed path e a.0 ends (spot_parts S volume e a.0 a.1))) a.2

  looks_for : (ask : Asked) (op : Op)
      → ((f : Fid) → is_listed (looked_up_for S volume ask) f ≡ true → is_listed looked f ≡ true)
      → accept s volume ask ≡ Ok op → Looks looked op
  unfolding accept
  looks_for (Create path mode owner) op within h =
      creation_looks (ending path) (λ dir name fid. CreateOp dir name fid mode owner) op
      (λ dir name fid. neither looked (CreateOp dir name fid mode owner) refl refl) h
  looks_for (Mkdir path mode owner) op within h =
      creation_looks (ending path) (λ dir name fid. MkdirOp dir name fid mode owner) op
      (λ dir name fid. neither looked (MkdirOp dir name fid mode owner) refl refl) h
  looks_for (Symlink path target) op within h =
      creation_looks (ending path) (λ dir name fid. SymlinkOp dir name fid target 511 0) op
      (λ dir name fid. neither looked (SymlinkOp dir name fid target 511 0) refl refl) h
  looks_for (Store path content) op within h =
      let a = found_then (resolve S (root_of volume) path) (λ fid. store_at (map.get S fid) fid content) op h in
      store_looks (map.get S a.0) a.0 content op a.2
  looks_for (Setattr path attrs) op within h =
      let a = found_then (resolve S (root_of volume) path) (λ fid. setattr_at (map.get S fid) fid attrs) op h in
      setattr_looks (map.get S a.0) a.0 attrs op a.2
  looks_for (Remove path) op within h = remove_all_looks path (ending path) op refl within h
  looks_for (Rmdir path) op within h = rmdir_all_looks path (ending path) op refl within h
  looks_for (Rename from to) op within h = rename_looks from to (ending from) op refl within h

pub accepted_looks : (s : Sight) (volume : ℕ) (ask : Asked) (op : Op) → accept s volume ask ≡ Ok op
    → Looks (looked_up_for s.held.nodes volume ask) op
accepted_looks s volume ask op h =
    looks_for s volume (looked_up_for s.held.nodes volume ask) ask op (λ f on. on) h
