-- What an accepted operation does with what a client holds.
use Rattle.std.proofs.Common.{◌≡◌, ◌≢◌, ℕ, ◌&&◌, ◌==◌, not, Bool, true, false, List, [], ◌∷◌, ◌++◌, Option, Some, None, is_some, option_map, Ok, refl, sym, ap, subst, ◌∙◌, inl, inr}
use Rattle.std.specs.FinMap as map
use Rattle.std.specs.Option.{unwrap_or}
use Rattle.std.proofs.lemmas.Option.{none-some}
use Rattle.coda_fid.specs.Fid.{root_of}
use Rattle.coda_fid.specs.declared.fid.Fid.{Fid}
use Rattle.coda_fid.specs.declared.fid.Sid.{Sid}
use Rattle.coda_fid.specs.declared.op.Attrs.{Attrs}
use Rattle.coda_fid.specs.declared.op.Over.{Over}
use Rattle.coda_fid.specs.declared.op.Op.{Op}
use Rattle.coda_fid.specs.declared.op.Op.TheVariants.{Store as StoreOp, Setattr as SetattrOp, Remove as RemoveOp, Rmdir as RmdirOp, Rename as RenameOp}
use Rattle.coda_fid.specs.declared.op.Record.{Record}
use Rattle.coda_fid.proofs.Fids.{fids_total, exact_fids}
use Rattle.coda_tree.specs.declared.node.Node.{Node}
use Rattle.coda_tree.specs.declared.node.NodeKind.{NodeKind}
use Rattle.coda_tree.specs.declared.node.NodeKind.TheVariants.{File, Link, Dir}
use Rattle.coda_tree.specs.Bindings.{Name}
use Rattle.coda_tree.specs.Volume.{Nodes, child, child_of, IsDir, changed, bind_in, unbind_in, unbound, Patch, set_or, with_content, written, removals, moves, content_patch, attrs_patch, edited_all}
use Rattle.coda_tree.proofs.Order.{gone_here, gone_else}
use Rattle.coda_tree.proofs.Changes.{has_changed, get_changed, bound_else, unbound_here}
use Rattle.coda_certify.specs.Replay.{MayRemove, made, rename_effects, effects, applied}
use Rattle.coda_venus.specs.declared.refused.Refused.TheVariants.{Exists, IsDir as IsADirectory, Loop}
use Rattle.coda_venus.specs.Ask.{Ending, ending}
use Rattle.coda_venus.specs.Held.{is_below, some_below}
use Rattle.coda_venus.specs.Looking.{then_find, held, step_from, resolve}
use Rattle.coda_venus.specs.Accepting.{Sight, new_under, new_place, accept_creation, store_in, store_at, setattr_at, remove_in, remove_at, rmdir_of, rmdir_in, rmdir_at, spot, bound_at, place, replaced_by, move_to, rename_to, rename_root, accept_rename, accept_remove, accept_rmdir}
use Rattle.coda_venus.proofs.Accepted.{MayMove, Relies, ok_is, found_then, not_at_root, new_under_is, new_fid_is, held_is, step_is, IsSpot, spot_is, root_stays, unless_below}
use Rattle.coda_cell.proofs.AfterOperations.{newly_bound, bound_before, IsBoundBy}
use Rattle.coda_runs.specs.Performed.{Leads, End, HasNoOther, Stamp, IsVersionOf, IsNew, IsStored, IsSet, IsGone}

-- ---- paths

pub leads : (m : Nodes) (at : Fid) (names : List Name) (fid : Fid) → resolve m at names ≡ Ok fid → Leads m at names fid
leads m at [] fid h = held_is (map.get m at) at fid h
leads m at (name ∷ names) fid h =
    let a = found_then (step_from (map.get m at) at name) (λ next. resolve m next names) fid h in
    (a.0, (step_is (map.get m at) at name a.0 a.1).1, leads m a.0 names fid a.2)

pub ends_so : (path : List Name) (e : List Name × Name) → ending path ≡ Some e → path ≡ e.0 ++ e.1 ∷ []
ends_so [] e h = cc
ends_so (name ∷ []) e h = (let same : ([], name) ≡ e = cc in ap (λ (x : List Name × Name). x.0 ++ x.1 ∷ []) same)
ends_so (name ∷ other ∷ names) e h = by (ending (other ∷ names)) (ends_so (other ∷ names)) h
  where
    by : (o : Ending) → ((x : List Name × Name) → o ≡ Some x → other ∷ names ≡ x.0 ++ x.1 ∷ []) → option_map (λ (x : List Name × Name). (name ∷ x.0, x.1)) o ≡ Some e → name ∷ other ∷ names ≡ e.0 ++ e.1 ∷ []
    by None rest h = cc
    by (Some x) rest h = (let same : (name ∷ x.0, x.1) ≡ e = cc in ap (λ ns. name ∷ ns) (rest x refl) ∙ ap (λ (y : List Name × Name). y.0 ++ y.1 ∷ []) same)

abbrev pub the_end : (m : Nodes) (volume : ℕ) (path : List Name) (e : List Name × Name) (dir : Fid) → ending path ≡ Some e → resolve m (root_of volume) e.0 ≡ Ok dir → End m volume path
the_end m volume path e dir is leads_to = record { front = e.0; last = e.1; dir = dir; is = ends_so path e is; leads = leads m (root_of volume) e.0 dir leads_to }

-- ---- creations

-- a creation that is accepted: where its path ends, and what it is
pub record Made (s : Sight) (volume : ℕ) (path : List Name) (make : Fid → Name → Fid → Op) (op : Op) : Type 0 where
  pub end : End s.held.nodes volume path
  pub fid : Fid
  pub is : op ≡ make end.dir end.last fid
  pub free : child s.held.nodes end.dir end.last ≡ None
  pub fresh : map.get s.held.nodes fid ≡ None

pub creation_made : (s : Sight) (volume : ℕ) (path : List Name) (o : Ending) (make : Fid → Name → Fid → Op) (op : Op) → ending path ≡ o → accept_creation s volume o make ≡ Ok op → Made s volume path make op
creation_made s volume path None make op is h = absurd (not_at_root s volume Exists op h)
creation_made s volume path (Some e) make op is h =
    let a = found_then (new_place s volume e) (λ p. Ok (make p.0 e.1 p.1)) op h in
    let b = found_then (resolve s.held.nodes (root_of volume) e.0) (λ dir. then_find (new_under s volume (map.get s.held.nodes dir) dir e.1) (λ fid. Ok (dir, fid))) a.0 a.1 in
    let d = found_then (new_under s volume (map.get s.held.nodes b.0) b.0 e.1) (λ fid. Ok (b.0, fid)) a.0 b.2 in
    let same = ok_is (b.0, d.0) a.0 d.2 in
    let u = new_under_is s volume (map.get s.held.nodes b.0) b.0 e.1 d.0 d.1 in
    let n = new_fid_is s volume d.0 u.2 in
    record {
      end = the_end s.held.nodes volume path e b.0 is b.1;
      fid = d.0;
      is = sym (ap (λ (p : Fid × Fid). make p.0 e.1 p.1) same ∙ ok_is (make a.0.0 e.1 a.0.1) op a.2);
      free = u.1;
      fresh = n.1;
    }

-- what it leaves
pub made_new : (by : Stamp) (s : Sight) (volume client : ℕ) (path : List Name) (make : Fid → Name → Fid → Op) (rec : Record) (node : Node) (made : Made s volume path make rec.op) → Relies s volume rec.op → IsBoundBy rec.op made.end.dir made.end.last made.fid
    → ((dir : Fid) (name : Name) → IsBoundBy rec.op dir name made.fid → (dir ≡ made.end.dir) × (name ≡ made.end.last))
    → map.get (applied s.held.nodes client rec) made.fid ≡ Some node → node.mtime ≡ by.time → IsVersionOf by node.sid → node.marked ≡ false → IsNew by s.held.nodes (applied s.held.nodes client rec) volume path node.kind node.mode node.owner made.fid
made_new by s volume client path make rec node made relies anew alone stands time version unmarked = record {
  end = made.end;
  free = made.free;
  fresh = made.fresh;
  bound = newly_bound s volume client rec made.end.dir made.end.last made.fid relies anew;
  only = λ dir name is. elim (bound_before s.held.nodes client rec dir name made.fid is) [ inl was ↦ inl was | inr by ↦ inr (alone dir name by) ];
  node = node;
  stands = stands;
  kind_is = refl;
  mode_is = refl;
  owner_is = refl;
  mtime_is = time;
  version_is = version;
  unmarked = unmarked;
}

-- ---- operations on an object

-- a store that is accepted
pub record Stored (m : Nodes) (volume : ℕ) (path : List Name) (content : List ℕ) (op : Op) : Type 0 where
  pub fid : Fid
  pub leads : Leads m (root_of volume) path fid
  pub node : Node
  pub there : map.get m fid ≡ Some node
  pub old : List ℕ
  pub file : node.kind ≡ File old
  pub is : op ≡ StoreOp fid node.sid content

store_stored : (m : Nodes) (volume : ℕ) (path : List Name) (content : List ℕ) (fid : Fid) (node : Node) (kind : NodeKind) (op : Op) → Leads m (root_of volume) path fid → map.get m fid ≡ Some node → node.kind ≡ kind → store_in kind fid node.sid content ≡ Ok op
    → Stored m volume path content op
store_stored m volume path content fid node (File old) op leads there kind h = record { fid = fid; leads = leads; node = node; there = there; old = old; file = kind; is = sym (ok_is (StoreOp fid node.sid content) op h) }
store_stored m volume path content fid node (Link target) op leads there kind h = cc
store_stored m volume path content fid node (Dir entries) op leads there kind h = cc

pub store_at_stored : (m : Nodes) (volume : ℕ) (path : List Name) (content : List ℕ) (fid : Fid) (o : Option Node) (op : Op) → Leads m (root_of volume) path fid → map.get m fid ≡ o → store_at o fid content ≡ Ok op → Stored m volume path content op
store_at_stored m volume path content fid None op leads there h = cc
store_at_stored m volume path content fid (Some node) op leads there h = store_stored m volume path content fid node node.kind op leads there refl h

-- a change of attributes that is accepted
pub record Changed (m : Nodes) (volume : ℕ) (path : List Name) (attrs : Attrs) (op : Op) : Type 0 where
  pub fid : Fid
  pub leads : Leads m (root_of volume) path fid
  pub node : Node
  pub there : map.get m fid ≡ Some node
  pub is : op ≡ SetattrOp fid node.sid attrs

pub setattr_changed : (m : Nodes) (volume : ℕ) (path : List Name) (attrs : Attrs) (fid : Fid) (o : Option Node) (op : Op) → Leads m (root_of volume) path fid → map.get m fid ≡ o → setattr_at o fid attrs ≡ Ok op → Changed m volume path attrs op
setattr_changed m volume path attrs fid None op leads there h = cc
setattr_changed m volume path attrs fid (Some node) op leads there h = record { fid = fid; leads = leads; node = node; there = there; is = sym (ok_is (SetattrOp fid node.sid attrs) op h) }

-- what a write leaves at its object
write_leaves : (m : Nodes) (fid : Fid) (patch : Patch) (sid : Sid) (node : Node) → map.get m fid ≡ Some node → map.get (changed m fid (written patch sid)) fid ≡ Some (written patch sid node)
write_leaves m fid patch sid node there = get_changed m fid (written patch sid) node there

set_or_is : {A : Type 0} (o : Option A) (x : A) → set_or o x ≡ unwrap_or o x
set_or_is None x = refl
set_or_is (Some y) x = refl

pub stored_so : (by : Stamp) (m : Nodes) (volume time : ℕ) (sid : Sid) (path : List Name) (content : List ℕ) (op : Op) (x : Stored m volume path content op) (n : Nodes) → n ≡ edited_all m (effects time sid (StoreOp x.fid x.node.sid content))
    → HasNoOther m n x.fid → HasNoOther n m x.fid → time ≡ by.time → IsVersionOf by sid → IsStored by m n volume path content x.fid
stored_so by m volume time sid path content op x n is only still when version = record {
  at = record { leads = x.leads; was = x.node; stood = x.there; node = written (content_patch content time) sid x.node; stands = ap (λ q. map.get q x.fid) is ∙ write_leaves m x.fid (content_patch content time) sid x.node x.there; only = only; still = still };
  old = x.old;
  file = x.file;
  content_is = ap (with_content (Some content)) x.file;
  mode_is = refl;
  owner_is = refl;
  mtime_is = when;
  version_is = version;
  mark_is = refl;
}

pub changed_so : (by : Stamp) (m : Nodes) (volume time : ℕ) (sid : Sid) (path : List Name) (attrs : Attrs) (op : Op) (x : Changed m volume path attrs op) (n : Nodes) → n ≡ edited_all m (effects time sid (SetattrOp x.fid x.node.sid attrs))
    → HasNoOther m n x.fid → HasNoOther n m x.fid → IsVersionOf by sid → IsSet by m n volume path attrs x.fid
changed_so by m volume time sid path attrs op x n is only still version = record {
  at = record { leads = x.leads; was = x.node; stood = x.there; node = written (attrs_patch attrs) sid x.node; stands = ap (λ q. map.get q x.fid) is ∙ write_leaves m x.fid (attrs_patch attrs) sid x.node x.there; only = only; still = still };
  kind_is = refl;
  mode_is = set_or_is attrs.mode x.node.mode;
  owner_is = set_or_is attrs.owner x.node.owner;
  mtime_is = set_or_is attrs.mtime x.node.mtime;
  version_is = version;
  mark_is = refl;
}

-- ---- removals

-- a removal that is accepted
pub record Removed (m : Nodes) (volume : ℕ) (path : List Name) (MayGo : NodeKind → Type 0) (make : Fid → Name → Fid → Sid → Op) (op : Op) : Type 0 where
  pub end : End m volume path
  pub fid : Fid
  pub bound : child m end.dir end.last ≡ Some fid
  pub node : Node
  pub there : map.get m fid ≡ Some node
  pub may : MayGo node.kind
  pub is : op ≡ make end.dir end.last fid node.sid

abbrev pub IsNoDir : NodeKind → Type 0
IsNoDir kind = IsDir kind → ⊥

removed_by : (m : Nodes) (volume : ℕ) (path : List Name) (e : List Name × Name) (at : Fid × Fid) (node : Node) (kind : NodeKind) (op : Op) → ending path ≡ Some e → IsSpot m volume e at → map.get m at.1 ≡ Some node → node.kind ≡ kind
    → remove_in kind at.0 e.1 at.1 node.sid ≡ Ok op → Removed m volume path IsNoDir RemoveOp op
removed_by m volume path e at node (File content) op is spot there k h =
    record { end = the_end m volume path e at.0 is spot.leads; fid = at.1; bound = spot.bound; node = node; there = there; may = subst IsNoDir (sym k) (λ isnt. isnt); is = sym (ok_is (RemoveOp at.0 e.1 at.1 node.sid) op h) }
removed_by m volume path e at node (Link target) op is spot there k h =
    record { end = the_end m volume path e at.0 is spot.leads; fid = at.1; bound = spot.bound; node = node; there = there; may = subst IsNoDir (sym k) (λ isnt. isnt); is = sym (ok_is (RemoveOp at.0 e.1 at.1 node.sid) op h) }
removed_by m volume path e at node (Dir entries) op is spot there k h = cc

remove_removed : (m : Nodes) (volume : ℕ) (path : List Name) (e : List Name × Name) (at : Fid × Fid) (o : Option Node) (op : Op) → ending path ≡ Some e → IsSpot m volume e at → map.get m at.1 ≡ o → remove_at o at.0 e.1 at.1 ≡ Ok op → Removed m volume path IsNoDir RemoveOp op
remove_removed m volume path e at None op is spot there h = cc
remove_removed m volume path e at (Some node) op is spot there h = removed_by m volume path e at node node.kind op is spot there refl h

pub accept_removed : (s : Sight) (volume : ℕ) (path : List Name) (o : Ending) (op : Op) → ending path ≡ o → accept_remove s volume o ≡ Ok op → Removed s.held.nodes volume path IsNoDir RemoveOp op
accept_removed s volume path None op is h = absurd (not_at_root s volume IsADirectory op h)
accept_removed s volume path (Some e) op is h =
    let a = found_then (spot s.held.nodes volume e) (λ at. remove_at (map.get s.held.nodes at.1) at.0 e.1 at.1) op h in
    remove_removed s.held.nodes volume path e a.0 (map.get s.held.nodes a.0.1) op is (spot_is s.held.nodes volume e a.0 a.1) refl a.2

rmdir_op : (empty : Bool) (dir : Fid) (name : Name) (fid : Fid) (pre : Sid) (op : Op) → rmdir_of empty dir name fid pre ≡ Ok op → op ≡ RmdirOp dir name fid pre
rmdir_op true dir name fid pre op h = sym (ok_is (RmdirOp dir name fid pre) op h)
rmdir_op false dir name fid pre op h = cc

rmdir_by : (s : Sight) (volume : ℕ) (path : List Name) (e : List Name × Name) (at : Fid × Fid) (node : Node) (kind : NodeKind) (op : Op) → ending path ≡ Some e → IsSpot s.held.nodes volume e at → map.get s.held.nodes at.1 ≡ Some node → node.kind ≡ kind
    → rmdir_in s kind at.0 e.1 at.1 node.sid ≡ Ok op → Removed s.held.nodes volume path IsDir RmdirOp op
rmdir_by s volume path e at node (File content) op is spot there k h = cc
rmdir_by s volume path e at node (Link target) op is spot there k h = cc
rmdir_by s volume path e at node (Dir entries) op is spot there k h = record {
  end = the_end s.held.nodes volume path e at.0 is spot.leads;
  fid = at.1;
  bound = spot.bound;
  node = node;
  there = there;
  may = subst IsDir (sym k) tt;
  is = rmdir_op ((map.len entries == 0) && not (some_below s.held s.is_dirty at.1)) at.0 e.1 at.1 node.sid op h;
}

rmdir_removed : (s : Sight) (volume : ℕ) (path : List Name) (e : List Name × Name) (at : Fid × Fid) (o : Option Node) (op : Op) → ending path ≡ Some e → IsSpot s.held.nodes volume e at → map.get s.held.nodes at.1 ≡ o → rmdir_at s o at.0 e.1 at.1 ≡ Ok op
    → Removed s.held.nodes volume path IsDir RmdirOp op
rmdir_removed s volume path e at None op is spot there h = cc
rmdir_removed s volume path e at (Some node) op is spot there h = rmdir_by s volume path e at node node.kind op is spot there refl h

pub accept_rmdir_removed : (s : Sight) (volume : ℕ) (path : List Name) (o : Ending) (op : Op) → ending path ≡ o → accept_rmdir s volume o ≡ Ok op → Removed s.held.nodes volume path IsDir RmdirOp op
accept_rmdir_removed s volume path None op is h = absurd (not_at_root s volume Loop op h)
accept_rmdir_removed s volume path (Some e) op is h =
    let a = found_then (spot s.held.nodes volume e) (λ at. rmdir_at s (map.get s.held.nodes at.1) at.0 e.1 at.1) op h in
    rmdir_removed s volume path e a.0 (map.get s.held.nodes a.0.1) op is (spot_is s.held.nodes volume e a.0 a.1) refl a.2

-- what binds something isn't what binds nothing
pub binds_apart : (m : Nodes) (d gone kid : Fid) (n : Name) → child m d n ≡ Some kid → ((name : Name) → child m gone name ≡ None) → d ≢ gone
binds_apart m d gone kid n was leaf same = none-some kid (sym (leaf n) ∙ ap (λ e. child m e n) (sym same) ∙ was)

pub removed_so : (m : Nodes) (volume : ℕ) (path : List Name) (MayGo : NodeKind → Type 0) (make : Fid → Name → Fid → Sid → Op) (op : Op) (x : Removed m volume path MayGo make op) → MayRemove m x.end.dir x.end.last x.fid
    → (n : Nodes) → n ≡ edited_all m (removals x.end.dir x.end.last x.fid) → HasNoOther m n x.fid → IsGone m n volume path MayGo x.fid
removed_so m volume path MayGo make op x may n is only =
    let apart = binds_apart m x.end.dir x.fid x.fid x.end.last x.bound may.leaf in
    let less = unbound m x.end.dir x.end.last in
    record {
      end = x.end;
      bound = x.bound;
      was = x.node;
      stood = x.there;
      may = x.may;
      binds_nothing = may.leaf;
      unbound = ap (λ q. child q x.end.dir x.end.last) is ∙ ap (λ o. child_of o x.end.last) (gone_else fids_total exact_fids less x.fid x.end.dir apart) ∙ unbound_here m x.end.dir x.end.last;
      only = only;
      taken = ap (λ q. map.get q x.fid) is ∙ gone_here fids_total less x.fid;
    }

-- ---- renames

-- a rename that is accepted
pub record Renamed (m : Nodes) (volume : ℕ) (from to : List Name) (op : Op) : Type 0 where
  pub old : End m volume from
  pub new : End m volume to
  pub fid : Fid
  pub over : Option Over
  pub is : op ≡ RenameOp old.dir old.last new.dir new.last fid over

pub place_leads : (m : Nodes) (volume : ℕ) (e : List Name × Name) (p : Fid × Option Fid) → place m volume e ≡ Ok p → resolve m (root_of volume) e.0 ≡ Ok p.0
place_leads m volume e p h =
    let a = found_then (resolve m (root_of volume) e.0) (λ dir. then_find (bound_at m (map.get m dir) dir e.1) (λ bound. Ok (dir, bound))) p h in
    let b = found_then (bound_at m (map.get m a.0) a.0 e.1) (λ bound. Ok (a.0, bound)) p a.2 in
    a.1 ∙ ap (λ (q : Fid × Option Fid). Ok q.0) (ok_is (a.0, b.0) p b.2)

rename_renamed : (s : Sight) (volume : ℕ) (from to : List Name) (e : List Name × Name) (at : Fid × Fid) (o : Ending) (op : Op) → ending from ≡ Some e → IsSpot s.held.nodes volume e at → ending to ≡ o → rename_to s volume at.0 e.1 at.1 o ≡ Ok op
    → Renamed s.held.nodes volume from to op
rename_renamed s volume from to e at None op is spot ends h = absurd (not_at_root s volume Exists op h)
rename_renamed s volume from to e at (Some t) op is spot ends h =
    let m = s.held.nodes in
    let a = found_then (place m volume t) (λ p. move_to s.held at.0 e.1 at.1 t.1 p) op h in
    let b = unless_below (is_below s.held.parents a.0.0 at.1) (then_find (replaced_by m at.1 a.0.1) (λ over. Ok (RenameOp at.0 e.1 a.0.0 t.1 at.1 over))) op a.2 in
    let d = found_then (replaced_by m at.1 a.0.1) (λ over. Ok (RenameOp at.0 e.1 a.0.0 t.1 at.1 over)) op b in
    record {
      old = the_end m volume from e at.0 is spot.leads;
      new = the_end m volume to t a.0.0 ends (place_leads m volume t a.0 a.1);
      fid = at.1;
      over = d.0;
      is = sym (ok_is (RenameOp at.0 e.1 a.0.0 t.1 at.1 d.0) op d.2);
    }

pub accept_renamed : (s : Sight) (volume : ℕ) (from to : List Name) (o : Ending) (op : Op) → ending from ≡ o → accept_rename s volume o (ending to) ≡ Ok op → Renamed s.held.nodes volume from to op
accept_renamed s volume from to None op is h =
    let a = found_then (held (map.get s.held.nodes (root_of volume)) (root_of volume)) (λ _. rename_root s volume (ending to)) op h in
    absurd (root_stays s volume (ending to) op a.2)
accept_renamed s volume from to (Some e) op is h =
    let a = found_then (spot s.held.nodes volume e) (λ at. rename_to s volume at.0 e.1 at.1 (ending to)) op h in
    rename_renamed s volume from to e a.0 (ending to) op is (spot_is s.held.nodes volume e a.0 a.1) refl a.2

-- the old name isn't the new one
pub apart_names : (m : Nodes) (from_dir : Fid) (from : Name) (to_dir : Fid) (to : Name) (fid : Fid) (over : Option Over) → MayMove m from_dir from to_dir to fid over → ((from_dir ≡ to_dir) × (from ≡ to)) → ⊥
apart_names m from_dir from to_dir to fid None may same = none-some fid (sym may.places.bound ∙ sym (λ i. child m (same.0 i) (same.1 i)) ∙ may.bound)
apart_names m from_dir from to_dir to fid (Some over) may same =
    let both : Some over.fid ≡ Some fid = sym may.places.bound ∙ sym (λ i. child m (same.0 i) (same.1 i)) ∙ may.bound in
    may.replaced.1 (let is : over.fid ≡ fid = cc in is)

moves_leave : (m : Nodes) (from_dir : Fid) (from : Name) (to_dir : Fid) (to : Name) (fid : Fid) → (((from_dir ≡ to_dir) × (from ≡ to)) → ⊥) → child (edited_all m (moves from_dir from to_dir to fid)) from_dir from ≡ None
moves_leave m from_dir from to_dir to fid apart = bound_else (unbound m from_dir from) to_dir to fid from_dir from apart ∙ unbound_here m from_dir from

pub rename_leaves : (m : Nodes) (from_dir : Fid) (from : Name) (to_dir : Fid) (to : Name) (fid : Fid) (over : Option Over) → (((from_dir ≡ to_dir) × (from ≡ to)) → ⊥) → child (edited_all m (rename_effects from_dir from to_dir to fid over)) from_dir from ≡ None
rename_leaves m from_dir from to_dir to fid None apart = moves_leave m from_dir from to_dir to fid apart
rename_leaves m from_dir from to_dir to fid (Some over) apart = moves_leave (map.remove m over.fid) from_dir from to_dir to fid apart

-- what is replaced isn't there any more
pub over_gone : (m : Nodes) (old from_dir : Fid) (from : Name) (to_dir : Fid) (to : Name) (fid : Fid) → map.get (edited_all (map.remove m old) (moves from_dir from to_dir to fid)) old ≡ None
over_gone m old from_dir from to_dir to fid =
    let less = map.remove m old in
    by (map.get (edited_all less (moves from_dir from to_dir to fid)) old) (has_changed (unbound less from_dir from) to_dir (λ n. bind_in n to fid) old ∙ has_changed less from_dir (λ n. unbind_in n from) old ∙ ap is_some (gone_here fids_total m old))
  where
    by : (o : Option Node) → is_some o ≡ false → o ≡ None
    by None h = refl
    by (Some node) h = cc

some_fids : (x y : Fid) → Some x ≡ Some y → x ≡ y
some_fids x y e = cc

pub replaced_so : (m : Nodes) (from_dir : Fid) (from : Name) (to_dir : Fid) (to : Name) (fid : Fid) (over : Option Over) → MayMove m from_dir from to_dir to fid over → (other : Fid) → child m to_dir to ≡ Some other
    → ((name : Name) → child m other name ≡ None) × (map.get (edited_all m (rename_effects from_dir from to_dir to fid over)) other ≡ None)
replaced_so m from_dir from to_dir to fid None may other is = absurd (none-some other (sym may.places.bound ∙ is))
replaced_so m from_dir from to_dir to fid (Some over) may other is =
    let same = some_fids over.fid other (sym may.places.bound ∙ is) in
    subst (λ f. ((name : Name) → child m f name ≡ None) × (map.get (edited_all (map.remove m over.fid) (moves from_dir from to_dir to fid)) f ≡ None)) same
    (may.replaced.2, over_gone m over.fid from_dir from to_dir to fid)
