-- An operation leaves where it is what other records made.
use Rattle.std.proofs.Common.{◌≡◌, ◌≢◌, ℕ, zero, suc, Bool, true, false, ◌&&◌, ◌==◌, not, List, Option, Some, None}
use Rattle.std.proofs.Common.{is_some, Ok, refl, sym, ap, ◌∙◌, subst, ⊎_elim}
use Rattle.std.proofs.lemmas.Bool.{or_left, or_right, or_cases, and_parts, and_from, false≢true, false_from_ne_true}
use Rattle.std.proofs.lemmas.Option.{none-some, same_Some}
use Rattle.std.specs.Option.{option_map_or}
use Rattle.std.specs.FinMap as map
use Rattle.coda_fid.specs.Fid.{root_of, same_fid}
use Rattle.coda_fid.specs.declared.fid.Fid.{Fid}
use Rattle.coda_fid.specs.declared.fid.Sid.{Sid}
use Rattle.coda_fid.specs.declared.op.Op.{Op}
use Rattle.coda_fid.specs.declared.op.Op.TheVariants.{Create as CreateOp, Mkdir as MkdirOp, Symlink as SymlinkOp}
use Rattle.coda_fid.specs.declared.op.Op.TheVariants.{Store as StoreOp, Setattr as SetattrOp, Remove as RemoveOp}
use Rattle.coda_fid.specs.declared.op.Op.TheVariants.{Rmdir as RmdirOp, Rename as RenameOp}
use Rattle.coda_fid.specs.declared.op.Record.{Record}
use Rattle.coda_fid.proofs.Fids.{fids_total}
use Rattle.coda_tree.specs.declared.node.Node.{Node}
use Rattle.coda_tree.specs.declared.node.NodeKind.{NodeKind}
use Rattle.coda_tree.specs.declared.node.NodeKind.TheVariants.{File, Link, Dir}
use Rattle.coda_tree.specs.Bindings.{Name}
use Rattle.coda_tree.specs.Volume.{Nodes, IsDir, IsDirNode}
use Rattle.coda_tree.proofs.Order.{get_here}
use Rattle.coda_cancel.specs.Dropping.{mentioning, creates}
use Rattle.coda_cancel.proofs.Keys.{fid_true, fid_same, fid_other}
use Rattle.coda_cml.specs.Steady.{makes_in, unbinds}
use Rattle.coda_cache.specs.Parents.{below_within}
use Rattle.coda_cache.specs.Steps.{new_node, taken_out, moved_node}
use Rattle.coda_venus.specs.Accepting.{Sight, sight_of, is_mentioned, new_place, accept_creation, store_in, store_at}
use Rattle.coda_venus.specs.Accepting.{setattr_at, remove_in, remove_at, rmdir_of, rmdir_in, rmdir_at, spot, place}
use Rattle.coda_venus.specs.Accepting.{is_dir_kind, is_dir_at, replaced_by, move_to, rename_to, accept_rename}
use Rattle.coda_venus.specs.Accepting.{accept_remove, accept_rmdir, accept, rename_root}
use Rattle.coda_venus.specs.Ask.{Asked, Create, Mkdir, Symlink, Store, Setattr, Remove, Rmdir, Rename, Ending, ending}
use Rattle.coda_venus.specs.Held.{Held, Parents, is_below, some_below, parents_after, held_without}
use Rattle.coda_venus.specs.Held.{held_after_operation}
use Rattle.coda_venus.specs.Held.{taken_out as goes_out}
use Rattle.coda_certify.specs.Replay.{applied}
use Rattle.coda_venus.specs.History.{IsDirty, MayOperate}
use Rattle.coda_venus.specs.Looking.{then_find, held, resolve}
use Rattle.coda_venus.specs.State.{ClientState}
use Rattle.coda_venus.specs.declared.refused.Refused.TheVariants.{Exists, IsDir as IsADirectory, Loop}
use Rattle.coda_venus.proofs.Accepted.{Relies, accepted_relies, found_then, ok_is, not_at_root, unless_below}
use Rattle.coda_venus.proofs.Accepted.{root_stays}
use Rattle.coda_venus.proofs.Childless as childless
use Rattle.coda_rounds.specs.Places.{AreHeld, AreInDirs}
use Rattle.coda_rounds.proofs.HeldBehind.{IsApart, same_parent}
use Rattle.coda_rounds.proofs.PlacedRecords.{unbinds_mentions}
use Rattle.coda_rounds.proofs.Unserved.{some_key}

-- ---- what acceptance knows of what it takes out

-- what is removed is no directory; and below a directory that is removed nothing is held that the log mentions
abbrev Removes : Sight → Op → Type 0
Removes s (RemoveOp dir name fid pre) = is_dir_at (map.get s.held.nodes fid) ≡ false
Removes s (RmdirOp dir name fid pre) = some_below s.held s.is_dirty fid ≡ false
Removes s _ = Unit {0}

module _ (s : Sight) (volume : ℕ) where
  creation_removes : (e : Ending) (make : Fid → Name → Fid → Op) (op : Op)
      → ((dir : Fid) (name : Name) (fid : Fid) → Removes s (make dir name fid))
      → accept_creation s volume e make ≡ Ok op → Removes s op
  creation_removes None make op all h = absurd (not_at_root s volume Exists op h)
  creation_removes (Some e) make op all h =
      let a = found_then (new_place s volume e) (λ p. Ok (make p.0 e.1 p.1)) op h in
      subst (Removes s) (ok_is (make a.0.0 e.1 a.0.1) op a.2) (all a.0.0 e.1 a.0.1)

  store_removes : (kind : NodeKind) (fid : Fid) (pre : Sid) (content : List ℕ) (op : Op)
      → store_in kind fid pre content ≡ Ok op → Removes s op
  store_removes (File old) fid pre content op h = subst (Removes s) (ok_is (StoreOp fid pre content) op h) tt
  store_removes (Link target) fid pre content op h = cc
  store_removes (Dir entries) fid pre content op h = cc

  store_at_removes : (o : Option Node) (fid : Fid) (content : List ℕ) (op : Op) → store_at o fid content ≡ Ok op
      → Removes s op
  store_at_removes None fid content op h = cc
  store_at_removes (Some node) fid content op h = store_removes node.kind fid node.sid content op h

  setattr_removes : (o : Option Node) (fid : Fid) (attrs : _) (op : Op) → setattr_at o fid attrs ≡ Ok op → Removes s op
  setattr_removes None fid attrs op h = cc
  setattr_removes (Some node) fid attrs op h = subst (Removes s) (ok_is (SetattrOp fid node.sid attrs) op h) tt

  remove_removes : (kind : NodeKind) (dir : Fid) (name : Name) (fid : Fid) (pre : Sid) (op : Op)
      → (is_dir_kind kind ≡ false → is_dir_at (map.get s.held.nodes fid) ≡ false)
      → remove_in kind dir name fid pre ≡ Ok op → Removes s op
  remove_removes (File content) dir name fid pre op is h = subst (Removes s) (ok_is (RemoveOp dir name fid pre) op h) (is refl)
  remove_removes (Link target) dir name fid pre op is h = subst (Removes s) (ok_is (RemoveOp dir name fid pre) op h) (is refl)
  remove_removes (Dir entries) dir name fid pre op is h = cc

  remove_at_removes : (o : Option Node) (dir : Fid) (name : Name) (fid : Fid) (op : Op)
      → map.get s.held.nodes fid ≡ o → remove_at o dir name fid ≡ Ok op → Removes s op
  remove_at_removes None dir name fid op e h = cc
  remove_at_removes (Some node) dir name fid op e h = remove_removes node.kind dir name fid node.sid op (λ k. ap is_dir_at e ∙ k) h

  rmdir_of_removes : (bare : Bool) (dir : Fid) (name : Name) (fid : Fid) (pre : Sid) (op : Op)
      → (bare ≡ true → some_below s.held s.is_dirty fid ≡ false)
      → rmdir_of bare dir name fid pre ≡ Ok op → Removes s op
  rmdir_of_removes true dir name fid pre op is h = subst (Removes s) (ok_is (RmdirOp dir name fid pre) op h) (is refl)
  rmdir_of_removes false dir name fid pre op is h = cc

  none_left : (empty below : Bool) → (empty && not below) ≡ true → below ≡ false
  none_left empty true h = absurd (false≢true ((and_parts empty false h).1))
  none_left empty false h = refl

  rmdir_removes : (kind : NodeKind) (dir : Fid) (name : Name) (fid : Fid) (pre : Sid) (op : Op)
      → rmdir_in s kind dir name fid pre ≡ Ok op → Removes s op
  rmdir_removes (File content) dir name fid pre op h = cc
  rmdir_removes (Link target) dir name fid pre op h = cc
  rmdir_removes (Dir entries) dir name fid pre op h =
      rmdir_of_removes ((map.len entries == 0) && not (some_below s.held s.is_dirty fid)) dir name fid pre op
      (none_left (map.len entries == 0) (some_below s.held s.is_dirty fid)) h

  rmdir_at_removes : (o : Option Node) (dir : Fid) (name : Name) (fid : Fid) (op : Op)
      → rmdir_at s o dir name fid ≡ Ok op → Removes s op
  rmdir_at_removes None dir name fid op h = cc
  rmdir_at_removes (Some node) dir name fid op h = rmdir_removes node.kind dir name fid node.sid op h

  rename_removes : (e to : Ending) (op : Op) → accept_rename s volume e to ≡ Ok op → Removes s op
  rename_removes None to op h =
      let a = found_then (held (map.get s.held.nodes (root_of volume)) (root_of volume)) (λ _. rename_root s volume to) op h in
      absurd (root_stays s volume to op a.2)
  rename_removes (Some e) None op h =
      let a = found_then (spot s.held.nodes volume e) (λ at. rename_to s volume at.0 e.1 at.1 None) op h in
      absurd (not_at_root s volume Exists op a.2)
  rename_removes (Some e) (Some to) op h =
      let a = found_then (spot s.held.nodes volume e) (λ at. rename_to s volume at.0 e.1 at.1 (Some to)) op h in
      let b = found_then (place s.held.nodes volume to) (λ p. move_to s.held a.0.0 e.1 a.0.1 to.1 p) op a.2 in
      let d = unless_below (is_below s.held.parents b.0.0 a.0.1) (then_find (replaced_by s.held.nodes a.0.1 b.0.1) (λ over. Ok (RenameOp a.0.0 e.1 b.0.0 to.1 a.0.1 over))) op b.2 in
      let r = found_then (replaced_by s.held.nodes a.0.1 b.0.1) (λ over. Ok (RenameOp a.0.0 e.1 b.0.0 to.1 a.0.1 over)) op d in
      subst (Removes s) (ok_is (RenameOp a.0.0 e.1 b.0.0 to.1 a.0.1 r.0) op r.2) tt

  remove_ends : (e : Ending) (op : Op) → accept_remove s volume e ≡ Ok op → Removes s op
  remove_ends None op h = absurd (not_at_root s volume IsADirectory op h)
  remove_ends (Some e) op h =
      let a = found_then (spot s.held.nodes volume e) (λ at. remove_at (map.get s.held.nodes at.1) at.0 e.1 at.1) op h in
      remove_at_removes (map.get s.held.nodes a.0.1) a.0.0 e.1 a.0.1 op refl a.2

  rmdir_ends : (e : Ending) (op : Op) → accept_rmdir s volume e ≡ Ok op → Removes s op
  rmdir_ends None op h = absurd (not_at_root s volume Loop op h)
  rmdir_ends (Some e) op h =
      let a = found_then (spot s.held.nodes volume e) (λ at. rmdir_at s (map.get s.held.nodes at.1) at.0 e.1 at.1) op h in
      rmdir_at_removes (map.get s.held.nodes a.0.1) a.0.0 e.1 a.0.1 op a.2

  accepted_removes : (ask : Asked) (op : Op) → accept s volume ask ≡ Ok op → Removes s op
  unfolding accept
  accepted_removes (Create path mode owner) op h = creation_removes (ending path) (λ dir name fid. CreateOp dir name fid mode owner) op (λ dir name fid. tt) h
  accepted_removes (Mkdir path mode owner) op h = creation_removes (ending path) (λ dir name fid. MkdirOp dir name fid mode owner) op (λ dir name fid. tt) h
  accepted_removes (Symlink path target) op h = creation_removes (ending path) (λ dir name fid. SymlinkOp dir name fid target 511 0) op (λ dir name fid. tt) h
  accepted_removes (Store path content) op h =
      let a = found_then (resolve s.held.nodes (root_of volume) path) (λ fid. store_at (map.get s.held.nodes fid) fid content) op h in
      store_at_removes (map.get s.held.nodes a.0) a.0 content op a.2
  accepted_removes (Setattr path attrs) op h =
      let a = found_then (resolve s.held.nodes (root_of volume) path) (λ fid. setattr_at (map.get s.held.nodes fid) fid attrs) op h in
      setattr_removes (map.get s.held.nodes a.0) a.0 attrs op a.2
  accepted_removes (Remove path) op h = remove_ends (ending path) op h
  accepted_removes (Rmdir path) op h = rmdir_ends (ending path) op h
  accepted_removes (Rename from to) op h = rename_removes (ending from) (ending to) op h

-- ---- ways up

not_dir_kind : (kind : NodeKind) → is_dir_kind kind ≡ false → IsDir kind → ⊥
not_dir_kind (File content) e is = is
not_dir_kind (Link target) e is = is
not_dir_kind (Dir entries) e is = false≢true (sym e)

not_dir : (o : Option Node) → is_dir_at o ≡ false → IsDirNode o → ⊥
not_dir None e is = is
not_dir (Some node) e is = not_dir_kind node.kind e is

module _ (h : Held) (dirs : AreInDirs h) where
  -- below an object that is no directory nothing else is
  none_under : (f x : Fid) → is_dir_at (map.get h.nodes x) ≡ false → f ≢ x → is_below h.parents f x ≡ false
  unfolding is_below
  none_under f x file off =
      childless.within h.parents x (λ g at. not_dir (map.get h.nodes x) file (dirs.dirs g x at)) (map.len h.parents) f ∙ fid_other f x off

  -- what is below another object is of its volume
  volume_up : (steps : ℕ) (f x : Fid) → below_within h.parents steps f x ≡ true → f.volume ≡ x.volume
  volume_up zero f x below = ap (λ (g : Fid). g.volume) (fid_true f x below)
  volume_up (suc steps) f x below = ⊎_elim
      (λ (a : same_fid f x ≡ true). ap (λ (g : Fid). g.volume) (fid_true f x a))
      (λ (b : option_map_or (λ p. below_within h.parents steps p x) (map.get h.parents f) false ≡ true). up (λ p. volume_up steps p x) (map.get h.parents f) refl b)
      (or_cases (same_fid f x) _ below)
    where
      up : ((p : Fid) → below_within h.parents steps p x ≡ true → p.volume ≡ x.volume) → (o : Option Fid)
          → map.get h.parents f ≡ o
          → option_map_or (λ p. below_within h.parents steps p x) o false ≡ true → f.volume ≡ x.volume
      up more None e b = absurd (false≢true b)
      up more (Some p) e b = dirs.within f p e ∙ more p b

  volume_below : (f x : Fid) → is_below h.parents f x ≡ true → f.volume ≡ x.volume
  unfolding is_below
  volume_below f x below = volume_up (map.len h.parents) f x below

  -- what passes a test below is found
  found_below : (test : Fid → Bool) (f x : Fid) → is_some (map.get h.nodes f) ≡ true → f ≢ x → test f ≡ true
      → is_below h.parents f x ≡ true → some_below h test x ≡ true
  unfolding some_below
  found_below test f x there off passes below =
      some_key (λ g. not (same_fid g x) && (test g && is_below h.parents g x)) h.nodes f there
      (and_from _ _ (ap not (fid_other f x off)) (and_from _ _ passes below))

-- ---- operations

taken_unbinds : (op : Op) (x : Fid) → taken_out op ≡ Some x → (unbinds x op ≡ true)
taken_unbinds (CreateOp dir name fid mode owner) x e = absurd (none-some x e)
taken_unbinds (MkdirOp dir name fid mode owner) x e = absurd (none-some x e)
taken_unbinds (SymlinkOp dir name fid target mode owner) x e = absurd (none-some x e)
taken_unbinds (StoreOp fid pre content) x e = absurd (none-some x e)
taken_unbinds (SetattrOp fid pre attrs) x e = absurd (none-some x e)
taken_unbinds (RemoveOp dir name fid pre) x e = fid_same fid x (same_Some fid x e)
taken_unbinds (RmdirOp dir name fid pre) x e = fid_same fid x (same_Some fid x e)
taken_unbinds (RenameOp from_dir from to_dir to fid None) x e = absurd (none-some x e)
taken_unbinds (RenameOp from_dir from to_dir to fid (Some over)) x e = or_right (same_fid fid x) _ (fid_same over.fid x (same_Some over.fid x e))

moved_unbinds : (op : Op) (x dir : Fid) → moved_node op ≡ Some (x, dir) → unbinds x op ≡ true
moved_unbinds (CreateOp d name fid mode owner) x dir e = absurd (none-some (x, dir) e)
moved_unbinds (MkdirOp d name fid mode owner) x dir e = absurd (none-some (x, dir) e)
moved_unbinds (SymlinkOp d name fid target mode owner) x dir e = absurd (none-some (x, dir) e)
moved_unbinds (StoreOp fid pre content) x dir e = absurd (none-some (x, dir) e)
moved_unbinds (SetattrOp fid pre attrs) x dir e = absurd (none-some (x, dir) e)
moved_unbinds (RemoveOp d name fid pre) x dir e = absurd (none-some (x, dir) e)
moved_unbinds (RmdirOp d name fid pre) x dir e = absurd (none-some (x, dir) e)
moved_unbinds (RenameOp from_dir from to_dir to fid over) x dir e = or_left (same_fid fid x) _ (fid_same fid x (ap (λ (p : Fid × Fid). p.0) (same_Some (fid, to_dir) (x, dir) e)))

-- what is created is a new node
creates_node : (op : Op) (f : Fid) → creates f op ≡ true → (dir : Fid) × (new_node op ≡ Some (dir, f))
creates_node (CreateOp dir name fid mode owner) f e = (dir, ap (λ x. Some (dir, x)) (fid_true fid f e))
creates_node (MkdirOp dir name fid mode owner) f e = (dir, ap (λ x. Some (dir, x)) (fid_true fid f e))
creates_node (SymlinkOp dir name fid target mode owner) f e = (dir, ap (λ x. Some (dir, x)) (fid_true fid f e))
creates_node (StoreOp fid pre content) f e = absurd (false≢true e)
creates_node (SetattrOp fid pre attrs) f e = absurd (false≢true e)
creates_node (RemoveOp dir name fid pre) f e = absurd (false≢true e)
creates_node (RmdirOp dir name fid pre) f e = absurd (false≢true e)
creates_node (RenameOp from_dir from to_dir to fid over) f e = absurd (false≢true e)

-- and isn't held yet
new_free : (s : Sight) (volume : ℕ) (op : Op) (dir f : Fid) → Relies s volume op → new_node op ≡ Some (dir, f)
    → map.get s.held.nodes f ≡ None
new_free s volume (CreateOp d name fid mode owner) dir f r e = ap (map.get s.held.nodes) (sym (ap (λ (p : Fid × Fid). p.1) (same_Some (d, fid) (dir, f) e))) ∙ r.place.fid_free
new_free s volume (MkdirOp d name fid mode owner) dir f r e = ap (map.get s.held.nodes) (sym (ap (λ (p : Fid × Fid). p.1) (same_Some (d, fid) (dir, f) e))) ∙ r.place.fid_free
new_free s volume (SymlinkOp d name fid target mode owner) dir f r e = ap (map.get s.held.nodes) (sym (ap (λ (p : Fid × Fid). p.1) (same_Some (d, fid) (dir, f) e))) ∙ r.place.fid_free
new_free s volume (StoreOp fid pre content) dir f r e = absurd (none-some (dir, f) e)
new_free s volume (SetattrOp fid pre attrs) dir f r e = absurd (none-some (dir, f) e)
new_free s volume (RemoveOp d name fid pre) dir f r e = absurd (none-some (dir, f) e)
new_free s volume (RmdirOp d name fid pre) dir f r e = absurd (none-some (dir, f) e)
new_free s volume (RenameOp from_dir from to_dir to fid over) dir f r e = absurd (none-some (dir, f) e)

module _ (c : ClientState) (volume : ℕ) (rec : Record) (may : MayOperate c volume rec) (kept : AreHeld c.held) (dirs : AreInDirs c.held) (own : (f : Fid) → mentioning f rec.op ≡ true → f.volume ≡ volume) where
  abbrev later : Held
  later = held_after_operation c.held c.number rec

  relies : Relies (sight_of c volume) volume rec.op
  relies = accepted_relies (sight_of c volume) volume may.ask rec.op may.accepted

  removes : Removes (sight_of c volume) rec.op
  removes = accepted_removes (sight_of c volume) volume may.ask rec.op may.accepted

  module _ (f dir : Fid) (dirty : IsDirty c f) (at : map.get c.held.parents f ≡ Some dir) (stays : unbinds f rec.op ≡ false) where
    not_made : (d g : Fid) → new_node rec.op ≡ Some (d, g) → f ≢ g
    not_made d g e same = false≢true (sym (ap is_some (ap (map.get c.held.nodes) same
        ∙ new_free (sight_of c volume) volume rec.op d g relies e)) ∙ kept f dir at)

    not_moved : (g d : Fid) → moved_node rec.op ≡ Some (g, d) → f ≢ g
    not_moved g d e same = false≢true (sym stays ∙ ap (λ x. unbinds x rec.op) same ∙ moved_unbinds rec.op g d e)

    not_taken : (x : Fid) → taken_out rec.op ≡ Some x → f ≢ x
    not_taken x e same = false≢true (sym stays ∙ ap (λ x. unbinds x rec.op) same ∙ taken_unbinds rec.op x e)

    -- where nothing is below that the log mentions
    clean_below : (x : Fid) → taken_out rec.op ≡ Some x
        → some_below c.held (is_mentioned (c.volumes volume)) x ≡ false → is_below c.held.parents f x ≡ false
    clean_below x e none = false_from_ne_true _ (λ below.
        let same = volume_below c.held dirs f x below ∙ own x (unbinds_mentions x rec.op (taken_unbinds rec.op x e)) in
        false≢true (sym none
        ∙ found_below c.held dirs (is_mentioned (c.volumes volume)) f x (kept f dir at) (not_taken x e)
        (subst (λ v. is_mentioned (c.volumes v) f ≡ true) same dirty) below))

    apart_by : (op : Op) → ((x : Fid) → taken_out op ≡ Some x → f ≢ x)
        → ((x : Fid) → taken_out op ≡ Some x → some_below c.held (is_mentioned (c.volumes volume)) x ≡ false
        → is_below c.held.parents f x ≡ false)
        → Relies (sight_of c volume) volume op → Removes (sight_of c volume) op → (x : Fid) → taken_out op ≡ Some x
        → is_below c.held.parents f x ≡ false
    apart_by (CreateOp d name fid mode owner) off clean r k x e = absurd (none-some x e)
    apart_by (MkdirOp d name fid mode owner) off clean r k x e = absurd (none-some x e)
    apart_by (SymlinkOp d name fid target mode owner) off clean r k x e = absurd (none-some x e)
    apart_by (StoreOp fid pre content) off clean r k x e = absurd (none-some x e)
    apart_by (SetattrOp fid pre attrs) off clean r k x e = absurd (none-some x e)
    apart_by (RemoveOp d name fid pre) off clean r k x e = none_under c.held dirs f x (ap (λ g. is_dir_at (map.get c.held.nodes g)) (sym (same_Some fid x e)) ∙ k) (off x e)
    apart_by (RmdirOp d name fid pre) off clean r k x e = clean x e (ap (some_below c.held (is_mentioned (c.volumes volume))) (sym (same_Some fid x e)) ∙ k)
    apart_by (RenameOp from_dir from to_dir to fid None) off clean r k x e = absurd (none-some x e)
    apart_by (RenameOp from_dir from to_dir to fid (Some over)) off clean r k x e =
        none_under c.held dirs f x (ap (λ g. is_dir_at (map.get c.held.nodes g)) (sym (same_Some over.fid x e))
        ∙ r.replaced.3) (off x e)

    apart : IsApart c.held c.number rec f
    apart = apart_by rec.op not_taken clean_below relies removes

    -- what is mentioned has the same parent then, and isn't made again, where it isn't taken from where it is bound
    pub stays_put : (map.get later.parents f ≡ Some dir) × (creates f rec.op ≡ false)
    stays_put = (
      same_parent c.held c.number rec f apart not_made not_moved ∙ at,
      false_from_ne_true _ (λ makes. let n = creates_node rec.op f makes in not_made n.0 f n.1 refl),
    )

put_there : (parents : Parents) (home it dir f : Fid) → (same_fid home dir && same_fid it f) ≡ true
    → map.get (map.insert parents it home) f ≡ Some dir
put_there parents home it dir f m =
    let both = and_parts (same_fid home dir) (same_fid it f) m in
    ap (map.get (map.insert parents it home)) (sym (fid_true it f both.1)) ∙ get_here fids_total parents it home
    ∙ ap Some (fid_true home dir both.0)

made_by : (h : Held) (nodes : Nodes) (op : Op) (dir f : Fid) → makes_in dir f op ≡ true
    → map.get (held_without (goes_out op) h.parents (record { nodes = nodes; parents = parents_after h.parents op })).parents f ≡ Some dir
made_by h nodes (CreateOp home name it mode owner) dir f m = put_there h.parents home it dir f m
made_by h nodes (MkdirOp home name it mode owner) dir f m = put_there h.parents home it dir f m
made_by h nodes (SymlinkOp home name it target mode owner) dir f m = put_there h.parents home it dir f m
made_by h nodes (StoreOp it pre content) dir f m = absurd (false≢true m)
made_by h nodes (SetattrOp it pre attrs) dir f m = absurd (false≢true m)
made_by h nodes (RemoveOp home name it pre) dir f m = absurd (false≢true m)
made_by h nodes (RmdirOp home name it pre) dir f m = absurd (false≢true m)
made_by h nodes (RenameOp from_dir from to_dir to it over) dir f m = absurd (false≢true m)

-- what is made has the directory as its parent
pub made_there : (h : Held) (client : ℕ) (rec : Record) (dir f : Fid) → makes_in dir f rec.op ≡ true
    → map.get (held_after_operation h client rec).parents f ≡ Some dir
made_there h client rec dir f m = made_by h (applied h.nodes client rec) rec.op dir f m
