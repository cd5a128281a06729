-- What an accepted operation may rely on.
use Rattle.std.proofs.Common.{◌≡◌, ◌≢◌, ℕ, ◌<◌, ◌==◌, ◌||◌, ◌&&◌, not, Bool, true, false, cond, List, [], ◌∷◌, Option, Some, None, is_some, option_map, Result, Ok, Err, refl, sym, ap, subst, ◌∙◌, inl, inr, ◌⊎◌, arith}
use Rattle.std.specs.FinMap as map
use Rattle.std.proofs.lemmas.Bool.{eqb-true, false≢true}
use Rattle.std.specs.FinMap.{FinMap}
use Rattle.coda_fid.specs.Name.{name_cmp}
use Rattle.coda_cancel.proofs.Keys.{fid_same}
use Rattle.std.proofs.lemmas.Bool.Decides.{nat_tests}
use Rattle.coda_fid.specs.Fid.{root_of, same_fid}
use Rattle.coda_fid.specs.declared.fid.Fid.{Fid}
use Rattle.coda_fid.specs.declared.fid.Sid.{Sid}
use Rattle.coda_fid.specs.declared.op.Attrs.{Attrs}
use Rattle.coda_fid.specs.declared.op.Over.{Over}
use Rattle.coda_fid.specs.declared.op.Op.{Op}
use Rattle.coda_fid.specs.declared.op.Op.TheVariants.{Create as CreateOp, Mkdir as MkdirOp, Symlink as SymlinkOp, Store as StoreOp, Setattr as SetattrOp, Remove as RemoveOp, Rmdir as RmdirOp, Rename as RenameOp}
use Rattle.coda_tree.specs.declared.node.Node.{Node}
use Rattle.coda_tree.specs.declared.node.NodeKind.{NodeKind}
use Rattle.coda_tree.specs.declared.node.NodeKind.TheVariants.{File, Link, Dir}
use Rattle.coda_tree.specs.Bindings.{Name}
use Rattle.coda_tree.specs.Volume.{Nodes, bindings, child, child_of, has, IsDir, IsDirNode, IsDirAt}
use Rattle.coda_certify.specs.Replay.{MayCreate, MayRemove, MayRename, MayApply}
use Rattle.coda_plain.specs.Deeds.{created_by}
use Rattle.coda_venus.specs.declared.refused.Refused.{Refused}
use Rattle.coda_venus.specs.declared.refused.Refused.TheVariants.{Exists, IsDir as IsADirectory, Loop, JournalFull}
use Rattle.coda_venus.specs.Ask.{Asked, Create, Mkdir, Symlink, Store, Setattr, Remove, Rmdir, Rename, Ending, ending}
use Rattle.coda_venus.specs.Held.{is_below, some_below}
use Rattle.coda_venus.specs.Looking.{then_find, held, found, step_in, step_from, resolve}
use Rattle.coda_venus.specs.Accepting.{Accepted, Sight, next_fid, is_used_up, unless_used, new_fid, new_at, new_in, new_under, new_place, at_root, accept_creation, store_in, store_at, setattr_at, remove_in, remove_at, rmdir_of, rmdir_in, rmdir_at, spot, held_bound, bound_in, bound_at, place, is_dir_kind, is_dir_at, with_version, replaced_by, move_to, rename_to, rename_root, accept_rename, accept_remove, accept_rmdir, accept}

-- a creation relies on its place, and creates the next object
pub record MayMake (s : Sight) (volume : ℕ) (dir : Fid) (name : Name) (fid : Fid) : Type 0 where
  pub place : MayCreate s.held.nodes dir name fid
  pub next : fid ≡ next_fid s volume
  pub few : s.creations < 4294967295

-- what is replaced is held, is no directory, and isn't what is moved
abbrev pub IsReplaced : Nodes → Fid → Option Over → Type 0
IsReplaced m fid None = Unit {0}
IsReplaced m fid (Some over) = (has m over.fid ≡ true) × (over.fid ≢ fid) × ((name : Name) → child m over.fid name ≡ None) × (is_dir_at (map.get m over.fid) ≡ false)

-- a rename relies on both places, and moves what is held
pub record MayMove (m : Nodes) (from_dir : Fid) (from : Name) (to_dir : Fid) (to : Name) (fid : Fid) (over : Option Over) : Type 0 where
  pub places : MayRename m from_dir to_dir to over
  pub bound : child m from_dir from ≡ Some fid
  pub there : has m fid ≡ true
  pub replaced : IsReplaced m fid over

-- what an operation that is accepted relies on
abbrev pub Relies : Sight → ℕ → Op → Type 0
Relies s volume (CreateOp dir name fid mode owner) = MayMake s volume dir name fid
Relies s volume (MkdirOp dir name fid mode owner) = MayMake s volume dir name fid
Relies s volume (SymlinkOp dir name fid target mode owner) = MayMake s volume dir name fid
Relies s volume (StoreOp fid pre content) = has s.held.nodes fid ≡ true
Relies s volume (SetattrOp fid pre attrs) = has s.held.nodes fid ≡ true
Relies s volume (RemoveOp dir name fid pre) = MayRemove s.held.nodes dir name fid × (has s.held.nodes fid ≡ true)
Relies s volume (RmdirOp dir name fid pre) = MayRemove s.held.nodes dir name fid × (has s.held.nodes fid ≡ true)
Relies s volume (RenameOp from_dir from to_dir to fid over) = MayMove s.held.nodes from_dir from to_dir to fid over

pub relies_may_apply : (s : Sight) (volume : ℕ) (op : Op) → Relies s volume op → MayApply s.held.nodes op
relies_may_apply s volume (CreateOp dir name fid mode owner) r = r.place
relies_may_apply s volume (MkdirOp dir name fid mode owner) r = r.place
relies_may_apply s volume (SymlinkOp dir name fid target mode owner) r = r.place
relies_may_apply s volume (StoreOp fid pre content) r = tt
relies_may_apply s volume (SetattrOp fid pre attrs) r = tt
relies_may_apply s volume (RemoveOp dir name fid pre) r = r.0.dir_there
relies_may_apply s volume (RmdirOp dir name fid pre) r = r.0.dir_there
relies_may_apply s volume (RenameOp from_dir from to_dir to fid over) r = r.places

pub relies_few : (s : Sight) (volume : ℕ) (op : Op) → Relies s volume op → (s.creations < 4294967295) ⊎ (created_by op ≡ 0)
relies_few s volume (CreateOp dir name fid mode owner) r = inl r.few
relies_few s volume (MkdirOp dir name fid mode owner) r = inl r.few
relies_few s volume (SymlinkOp dir name fid target mode owner) r = inl r.few
relies_few s volume (StoreOp fid pre content) r = inr refl
relies_few s volume (SetattrOp fid pre attrs) r = inr refl
relies_few s volume (RemoveOp dir name fid pre) r = inr refl
relies_few s volume (RmdirOp dir name fid pre) r = inr refl
relies_few s volume (RenameOp from_dir from to_dir to fid over) r = inr refl

pub ok_is : {A : Type 0} (x y : A) → (let ok : A → Result A Refused = λ z. Ok z in ok x ≡ ok y) → x ≡ y
ok_is x y h = cc

-- what a success came from
pub found_then : {A B : Type 0} (r : Result A Refused) (next : A → Result B Refused) (x : B) → then_find r next ≡ Ok x → (y : A) × (r ≡ Ok y) × (next y ≡ Ok x)
found_then (Err refusal) next x h = cc
found_then (Ok y) next x h = (y, refl, h)

-- what was not refused at the root
pub not_at_root : (s : Sight) (volume : ℕ) (refusal : Refused) (op : Op) → at_root s volume refusal ≡ Ok op → ⊥
not_at_root s volume refusal op h = let r = found_then (held (map.get s.held.nodes (root_of volume)) (root_of volume)) (λ _. Err refusal) op h in cc

-- ---- creations

none_of : {A : Type 0} (o : Option A) → is_some o ≡ false → o ≡ None
none_of None h = refl
none_of (Some x) h = cc

unless_used_is : (used : Bool) (new fid : Fid) → unless_used used new ≡ Ok fid → (used ≡ false) × (new ≡ fid)
unless_used_is true new fid h = cc
unless_used_is false new fid h = (refl, ok_is new fid h)

pub new_fid_is : (s : Sight) (volume : ℕ) (fid : Fid) → new_fid s volume ≡ Ok fid → (s.creations < 4294967295) × (map.get s.held.nodes fid ≡ None) × (fid ≡ next_fid s volume)
new_fid_is s volume fid h =
    let new = next_fid s volume in
    elim (is_used_up s) as (λ b. is_used_up s ≡ b → cond b (Err JournalFull) (unless_used (is_some (map.get s.held.nodes new)) new) ≡ Ok fid → (s.creations < 4294967295) × (map.get s.held.nodes fid ≡ None) × (fid ≡ new)) [
      | true ↦ λ e is. cc
      | false ↦ λ e is. let u = unless_used_is (is_some (map.get s.held.nodes new)) new fid is in (grind (arith, nat_tests, e), ap (map.get s.held.nodes) (sym u.1) ∙ none_of (map.get s.held.nodes new) u.0, sym u.1)
    ] refl h

new_at_is : (s : Sight) (volume : ℕ) (bound : Option Fid) (fid : Fid) → new_at s volume bound ≡ Ok fid → (bound ≡ None) × (new_fid s volume ≡ Ok fid)
new_at_is s volume None fid h = (refl, h)
new_at_is s volume (Some g) fid h = cc

new_in_is : (s : Sight) (volume : ℕ) (kind : NodeKind) (name : Name) (fid : Fid) → new_in s volume kind name ≡ Ok fid → IsDir kind × (map.get (bindings kind) name ≡ None) × (new_fid s volume ≡ Ok fid)
new_in_is s volume (File content) name fid h = cc
new_in_is s volume (Link target) name fid h = cc
new_in_is s volume (Dir entries) name fid h = let r = new_at_is s volume (map.get entries name) fid h in (tt, r.0, r.1)

pub new_under_is : (s : Sight) (volume : ℕ) (o : Option Node) (dir : Fid) (name : Name) (fid : Fid) → new_under s volume o dir name ≡ Ok fid → IsDirNode o × (child_of o name ≡ None) × (new_fid s volume ≡ Ok fid)
new_under_is s volume None dir name fid h = cc
new_under_is s volume (Some node) dir name fid h = new_in_is s volume node.kind name fid h

creation_is : (s : Sight) (volume : ℕ) (e : Ending) (make : Fid → Name → Fid → Op) (op : Op) → ((dir : Fid) (name : Name) (fid : Fid) → MayMake s volume dir name fid → Relies s volume (make dir name fid)) → accept_creation s volume e make ≡ Ok op → Relies s volume op
creation_is s volume None make op to h = absurd (not_at_root s volume Exists op h)
creation_is s volume (Some e) make op to h =
    let a = found_then (new_place s volume e) (λ p. Ok (make p.0 e.1 p.1)) op h in
    let b = found_then (resolve s.held.nodes (root_of volume) e.0) (λ dir. then_find (new_under s volume (map.get s.held.nodes dir) dir e.1) (λ fid. Ok (dir, fid))) a.0 a.1 in
    let d = found_then (new_under s volume (map.get s.held.nodes b.0) b.0 e.1) (λ fid. Ok (b.0, fid)) a.0 b.2 in
    let same = ok_is (b.0, d.0) a.0 d.2 in
    let u = new_under_is s volume (map.get s.held.nodes b.0) b.0 e.1 d.0 d.1 in
    let n = new_fid_is s volume d.0 u.2 in
    subst (Relies s volume) (ap (λ (p : Fid × Fid). make p.0 e.1 p.1) same ∙ ok_is (make a.0.0 e.1 a.0.1) op a.2)
    (to b.0 e.1 d.0 (record { place = record { dir_there = u.0; name_free = u.1; fid_free = n.1 }; next = n.2; few = n.0 }))

-- ---- operations on an object

pub held_is : (o : Option Node) (fid there : Fid) → held o fid ≡ Ok there → (fid ≡ there) × (is_some o ≡ true)
held_is None fid there h = cc
held_is (Some node) fid there h = (ok_is fid there h, refl)

pub resolve_has : (m : Nodes) (at : Fid) (names : List Name) (fid : Fid) → resolve m at names ≡ Ok fid → has m fid ≡ true
resolve_has m at [] fid h = let r = held_is (map.get m at) at fid h in subst (λ f. has m f ≡ true) r.0 r.1
resolve_has m at (name ∷ names) fid h = let a = found_then (step_from (map.get m at) at name) (λ next. resolve m next names) fid h in resolve_has m a.0 names fid a.2

found_is : (o : Option Fid) (fid : Fid) → found o ≡ Ok fid → o ≡ Some fid
found_is None fid h = cc
found_is (Some f) fid h = ap Some (ok_is f fid h)

step_in_is : (kind : NodeKind) (name : Name) (fid : Fid) → step_in kind name ≡ Ok fid → IsDir kind × (map.get (bindings kind) name ≡ Some fid)
step_in_is (File content) name fid h = cc
step_in_is (Link target) name fid h = cc
step_in_is (Dir entries) name fid h = (tt, found_is (map.get entries name) fid h)

pub step_is : (o : Option Node) (at : Fid) (name : Name) (fid : Fid) → step_from o at name ≡ Ok fid → IsDirNode o × (child_of o name ≡ Some fid)
step_is None at name fid h = cc
step_is (Some node) at name fid h = step_in_is node.kind name fid h

-- where a path ends in a directory
pub record IsSpot (m : Nodes) (volume : ℕ) (e : List Name × Name) (at : Fid × Fid) : Type 0 where
  pub leads : resolve m (root_of volume) e.0 ≡ Ok at.0
  pub dir : IsDirAt m at.0
  pub bound : child m at.0 e.1 ≡ Some at.1
  pub there : has m at.1 ≡ true

pub spot_is : (m : Nodes) (volume : ℕ) (e : List Name × Name) (at : Fid × Fid) → spot m volume e ≡ Ok at → IsSpot m volume e at
spot_is m volume e at h =
    let a = found_then (resolve m (root_of volume) e.0) (λ dir. then_find (step_from (map.get m dir) dir e.1) (λ fid. then_find (held (map.get m fid) fid) (λ there. Ok (dir, there)))) at h in
    let b = found_then (step_from (map.get m a.0) a.0 e.1) (λ fid. then_find (held (map.get m fid) fid) (λ there. Ok (a.0, there))) at a.2 in
    let d = found_then (held (map.get m b.0) b.0) (λ there. Ok (a.0, there)) at b.2 in
    let same : (a.0, d.0) ≡ at = ok_is (a.0, d.0) at d.2 in
    let is = held_is (map.get m b.0) b.0 d.0 d.1 in
    let s = step_is (map.get m a.0) a.0 e.1 b.0 b.1 in
    subst (IsSpot m volume e) same (record { leads = a.1; dir = s.0; bound = s.1 ∙ ap Some is.0; there = subst (λ f. has m f ≡ true) is.0 is.1 })

store_is : (s : Sight) (volume : ℕ) (kind : NodeKind) (fid : Fid) (pre : Sid) (content : List ℕ) (op : Op) → has s.held.nodes fid ≡ true → store_in kind fid pre content ≡ Ok op → Relies s volume op
store_is s volume (File old) fid pre content op there h = subst (Relies s volume) (ok_is (StoreOp fid pre content) op h) there
store_is s volume (Link target) fid pre content op there h = cc
store_is s volume (Dir entries) fid pre content op there h = cc

store_at_is : (s : Sight) (volume : ℕ) (o : Option Node) (fid : Fid) (content : List ℕ) (op : Op) → has s.held.nodes fid ≡ true → store_at o fid content ≡ Ok op → Relies s volume op
store_at_is s volume None fid content op there h = cc
store_at_is s volume (Some node) fid content op there h = store_is s volume node.kind fid node.sid content op there h

setattr_is : (s : Sight) (volume : ℕ) (o : Option Node) (fid : Fid) (attrs : Attrs) (op : Op) → has s.held.nodes fid ≡ true → setattr_at o fid attrs ≡ Ok op → Relies s volume op
setattr_is s volume None fid attrs op there h = cc
setattr_is s volume (Some node) fid attrs op there h = subst (Relies s volume) (ok_is (SetattrOp fid node.sid attrs) op h) there

-- a removal relies on a directory that binds the object, which binds nothing
removed_is : (s : Sight) (volume : ℕ) (e : List Name × Name) (at : Fid × Fid) → IsSpot s.held.nodes volume e at → ((name : Name) → child s.held.nodes at.1 name ≡ None) → MayRemove s.held.nodes at.0 e.1 at.1 × (has s.held.nodes at.1 ≡ true)
removed_is s volume e at is leaf = (record { dir_there = is.dir; bound = is.bound; leaf = leaf }, is.there)

remove_is : (s : Sight) (volume : ℕ) (e : List Name × Name) (at : Fid × Fid) (node : Node) (kind : NodeKind) (pre : Sid) (op : Op) → IsSpot s.held.nodes volume e at → map.get s.held.nodes at.1 ≡ Some node → node.kind ≡ kind
    → remove_in kind at.0 e.1 at.1 pre ≡ Ok op → Relies s volume op
remove_is s volume e at node (File content) pre op is n k h =
    subst (Relies s volume) (ok_is (RemoveOp at.0 e.1 at.1 pre) op h) (removed_is s volume e at is (λ name. ap (λ o. child_of o name) n ∙ ap (λ x. map.get (bindings x) name) k ∙ map.get-empty name_cmp name))
remove_is s volume e at node (Link target) pre op is n k h =
    subst (Relies s volume) (ok_is (RemoveOp at.0 e.1 at.1 pre) op h) (removed_is s volume e at is (λ name. ap (λ o. child_of o name) n ∙ ap (λ x. map.get (bindings x) name) k ∙ map.get-empty name_cmp name))
remove_is s volume e at node (Dir entries) pre op is n k h = cc

remove_at_is : (s : Sight) (volume : ℕ) (e : List Name × Name) (at : Fid × Fid) (o : Option Node) (op : Op) → IsSpot s.held.nodes volume e at → map.get s.held.nodes at.1 ≡ o → remove_at o at.0 e.1 at.1 ≡ Ok op → Relies s volume op
remove_at_is s volume e at None op is n h = cc
remove_at_is s volume e at (Some node) op is n h = remove_is s volume e at node node.kind node.sid op is n refl h

and_true : (a b : Bool) → (a && b) ≡ true → a ≡ true
and_true true b h = refl
and_true false b h = h

rmdir_of_is : (s : Sight) (volume : ℕ) (e : List Name × Name) (at : Fid × Fid) (empty : Bool) (pre : Sid) (op : Op) → IsSpot s.held.nodes volume e at → (empty ≡ true → (name : Name) → child s.held.nodes at.1 name ≡ None)
    → rmdir_of empty at.0 e.1 at.1 pre ≡ Ok op → Relies s volume op
rmdir_of_is s volume e at true pre op is leaf h = subst (Relies s volume) (ok_is (RmdirOp at.0 e.1 at.1 pre) op h) (removed_is s volume e at is (leaf refl))
rmdir_of_is s volume e at false pre op is leaf h = cc

-- a directory without entries binds nothing
pub empty_binds : (entries : FinMap name_cmp Fid) (name : Name) → (map.len entries == 0) ≡ true → map.get entries name ≡ None
empty_binds entries name e = ap (λ es. map.get es name) (map.empty_of_len entries (eqb-true (map.len entries) 0 e)) ∙ map.get-empty name_cmp name

rmdir_is : (s : Sight) (volume : ℕ) (e : List Name × Name) (at : Fid × Fid) (node : Node) (kind : NodeKind) (pre : Sid) (op : Op) → IsSpot s.held.nodes volume e at → map.get s.held.nodes at.1 ≡ Some node → node.kind ≡ kind
    → rmdir_in s kind at.0 e.1 at.1 pre ≡ Ok op → Relies s volume op
rmdir_is s volume e at node (File content) pre op is n k h = cc
rmdir_is s volume e at node (Link target) pre op is n k h = cc
rmdir_is s volume e at node (Dir entries) pre op is n k h =
    let none = not (some_below s.held s.is_dirty at.1) in
    rmdir_of_is s volume e at ((map.len entries == 0) && none) pre op is
    (λ empty name. ap (λ o. child_of o name) n ∙ ap (λ x. map.get (bindings x) name) k ∙ empty_binds entries name (and_true (map.len entries == 0) none empty)) h

rmdir_at_is : (s : Sight) (volume : ℕ) (e : List Name × Name) (at : Fid × Fid) (o : Option Node) (op : Op) → IsSpot s.held.nodes volume e at → map.get s.held.nodes at.1 ≡ o → rmdir_at s o at.0 e.1 at.1 ≡ Ok op → Relies s volume op
rmdir_at_is s volume e at None op is n h = cc
rmdir_at_is s volume e at (Some node) op is n h = rmdir_is s volume e at node node.kind node.sid op is n refl h

-- ---- renames

held_bound_is : (m : Nodes) (o b : Option Fid) → held_bound m o ≡ Ok b → o ≡ b
held_bound_is m None b h = ok_is None b h
held_bound_is m (Some fid) b h = held_some m (map.get m fid) fid b h
  where
    held_some : (m : Nodes) (o : Option Node) (fid : Fid) (b : Option Fid) → then_find (held o fid) (λ there. Ok (Some there)) ≡ Ok b → Some fid ≡ b
    held_some m None fid b h = cc
    held_some m (Some node) fid b h = ok_is (Some fid) b h

bound_in_is : (m : Nodes) (kind : NodeKind) (name : Name) (b : Option Fid) → bound_in m kind name ≡ Ok b → IsDir kind × (map.get (bindings kind) name ≡ b)
bound_in_is m (File content) name b h = cc
bound_in_is m (Link target) name b h = cc
bound_in_is m (Dir entries) name b h = (tt, held_bound_is m (map.get entries name) b h)

bound_at_is : (m : Nodes) (o : Option Node) (dir : Fid) (name : Name) (b : Option Fid) → bound_at m o dir name ≡ Ok b → IsDirNode o × (child_of o name ≡ b)
bound_at_is m None dir name b h = cc
bound_at_is m (Some node) dir name b h = bound_in_is m node.kind name b h

pub place_is : (m : Nodes) (volume : ℕ) (e : List Name × Name) (p : Fid × Option Fid) → place m volume e ≡ Ok p → IsDirAt m p.0 × (child m p.0 e.1 ≡ p.1)
place_is m volume e p h =
    let a = found_then (resolve m (root_of volume) e.0) (λ dir. then_find (bound_at m (map.get m dir) dir e.1) (λ bound. Ok (dir, bound))) p h in
    let b = found_then (bound_at m (map.get m a.0) a.0 e.1) (λ bound. Ok (a.0, bound)) p a.2 in
    subst (λ (p : Fid × Option Fid). IsDirAt m p.0 × (child m p.0 e.1 ≡ p.1)) (ok_is (a.0, b.0) p b.2) (bound_at_is m (map.get m a.0) a.0 e.1 b.0 b.1)

version_is : (o : Option Node) (old : Fid) (over : Option Over) → with_version o old ≡ Ok over → (is_some o ≡ true) × (Some old ≡ option_map (λ (v : Over). v.fid) over)
version_is None old over h = cc
version_is (Some node) old over h = (refl, ap (option_map (λ (v : Over). v.fid)) (ok_is (Some (record { fid = old; pre = node.sid })) over h))

pub unless_is : (same : Bool) (r : Result (Option Over) Refused) (over : Option Over) → cond same (Err Exists) r ≡ Ok over → (same ≡ false) × (r ≡ Ok over)
unless_is true r over h = cc
unless_is false r over h = (refl, h)

-- neither is so
pub or_none : (a b : Bool) → (a || b) ≡ false → (a ≡ false) × (b ≡ false)
or_none true b h = cc
or_none false b h = (refl, h)

no_dir_binds : (kind : NodeKind) (name : Name) → is_dir_kind kind ≡ false → map.get (bindings kind) name ≡ None
no_dir_binds (File content) name h = map.get-empty name_cmp name
no_dir_binds (Link target) name h = map.get-empty name_cmp name
no_dir_binds (Dir entries) name h = cc

no_dir_at_binds : (o : Option Node) (name : Name) → is_dir_at o ≡ false → child_of o name ≡ None
no_dir_at_binds None name h = refl
no_dir_at_binds (Some node) name h = no_dir_binds node.kind name h

some_is : (x y : Fid) → Some x ≡ Some y → x ≡ y
some_is x y h = cc

-- what is replaced, by what stands at the new name
replaced_at : (m : Nodes) (fid old : Fid) (over : Option Over) → has m old ≡ true → same_fid old fid ≡ false → is_dir_at (map.get m old) ≡ false → Some old ≡ option_map (λ (v : Over). v.fid) over → IsReplaced m fid over
replaced_at m fid old None there other file is = cc
replaced_at m fid old (Some over) there other file is =
    let at = some_is old over.fid is in
    subst (λ f. (has m f ≡ true) × (f ≢ fid) × ((name : Name) → child m f name ≡ None) × (is_dir_at (map.get m f) ≡ false)) at
    (there, (λ same. false≢true (sym other ∙ fid_same old fid same)), (λ name. no_dir_at_binds (map.get m old) name file), file)

replaced_is : (m : Nodes) (fid : Fid) (b : Option Fid) (over : Option Over) → replaced_by m fid b ≡ Ok over → (b ≡ option_map (λ (v : Over). v.fid) over) × IsReplaced m fid over
replaced_is m fid None over h = let is = ok_is None over h in (ap (option_map (λ (v : Over). v.fid)) is, subst (IsReplaced m fid) is tt)
replaced_is m fid (Some old) over h =
    let u = unless_is (same_fid old fid || (is_dir_at (map.get m fid) || is_dir_at (map.get m old))) (with_version (map.get m old) old) over h in
    let v = version_is (map.get m old) old over u.1 in
    let n = or_none (same_fid old fid) (is_dir_at (map.get m fid) || is_dir_at (map.get m old)) u.0 in
    let d = or_none (is_dir_at (map.get m fid)) (is_dir_at (map.get m old)) n.1 in
    (v.1, replaced_at m fid old over v.0 n.0 d.1 v.1)

pub unless_below : (below : Bool) (r : Accepted) (op : Op) → cond below (Err Loop) r ≡ Ok op → r ≡ Ok op
unless_below true r op h = cc
unless_below false r op h = h

move_is : (s : Sight) (volume : ℕ) (from_dir : Fid) (from : Name) (fid : Fid) (to : Name) (p : Fid × Option Fid) (op : Op) → move_to s.held from_dir from fid to p ≡ Ok op
    → IsDirAt s.held.nodes from_dir → child s.held.nodes from_dir from ≡ Some fid → has s.held.nodes fid ≡ true → IsDirAt s.held.nodes p.0 → child s.held.nodes p.0 to ≡ p.1 → Relies s volume op
move_is s volume from_dir from fid to p op h from_there from_bound there to_there bound =
    let m = s.held.nodes in
    let a = unless_below (is_below s.held.parents p.0 fid) (then_find (replaced_by m fid p.1) (λ over. Ok (RenameOp from_dir from p.0 to fid over))) op h in
    let b = found_then (replaced_by m fid p.1) (λ over. Ok (RenameOp from_dir from p.0 to fid over)) op a in
    let r = replaced_is m fid p.1 b.0 b.1 in
    subst (Relies s volume) (ok_is (RenameOp from_dir from p.0 to fid b.0) op b.2)
    (record { places = record { from_there = from_there; to_there = to_there; bound = bound ∙ r.0 }; bound = from_bound; there = there; replaced = r.1 })

rename_is : (s : Sight) (volume : ℕ) (from_dir : Fid) (from : Name) (fid : Fid) (to : Ending) (op : Op) → rename_to s volume from_dir from fid to ≡ Ok op → IsDirAt s.held.nodes from_dir → child s.held.nodes from_dir from ≡ Some fid
    → has s.held.nodes fid ≡ true → Relies s volume op
rename_is s volume from_dir from fid None op h from_there bound there = absurd (not_at_root s volume Exists op h)
rename_is s volume from_dir from fid (Some e) op h from_there bound there =
    let a = found_then (place s.held.nodes volume e) (λ p. move_to s.held from_dir from fid e.1 p) op h in
    let at = place_is s.held.nodes volume e a.0 a.1 in
    move_is s volume from_dir from fid e.1 a.0 op a.2 from_there bound there at.0 at.1

pub root_stays : (s : Sight) (volume : ℕ) (to : Ending) (op : Op) → rename_root s volume to ≡ Ok op → ⊥
root_stays s volume None op h = not_at_root s volume Loop op h
root_stays s volume (Some e) op h = let a = found_then (place s.held.nodes volume e) (λ p. Err Loop) op h in cc

-- ---- every kind

relies_remove : (s : Sight) (volume : ℕ) (e : Ending) (op : Op) → accept_remove s volume e ≡ Ok op → Relies s volume op
relies_remove s volume None op h = absurd (not_at_root s volume IsADirectory op h)
relies_remove s volume (Some e) op h =
    let a = found_then (spot s.held.nodes volume e) (λ at. remove_at (map.get s.held.nodes at.1) at.0 e.1 at.1) op h in
    remove_at_is s volume e a.0 (map.get s.held.nodes a.0.1) op (spot_is s.held.nodes volume e a.0 a.1) refl a.2

relies_rmdir : (s : Sight) (volume : ℕ) (e : Ending) (op : Op) → accept_rmdir s volume e ≡ Ok op → Relies s volume op
relies_rmdir s volume None op h = absurd (not_at_root s volume Loop op h)
relies_rmdir s volume (Some e) op h =
    let a = found_then (spot s.held.nodes volume e) (λ at. rmdir_at s (map.get s.held.nodes at.1) at.0 e.1 at.1) op h in
    rmdir_at_is s volume e a.0 (map.get s.held.nodes a.0.1) op (spot_is s.held.nodes volume e a.0 a.1) refl a.2

relies_rename : (s : Sight) (volume : ℕ) (from to : Ending) (op : Op) → accept_rename s volume from to ≡ Ok op → Relies s volume op
relies_rename s volume None to op h =
    let a = found_then (held (map.get s.held.nodes (root_of volume)) (root_of volume)) (λ _. rename_root s volume to) op h in
    absurd (root_stays s volume to op a.2)
relies_rename s volume (Some e) to op h =
    let a = found_then (spot s.held.nodes volume e) (λ at. rename_to s volume at.0 e.1 at.1 to) op h in
    let at = spot_is s.held.nodes volume e a.0 a.1 in
    rename_is s volume a.0.0 e.1 a.0.1 to op a.2 at.dir at.bound at.there

-- what is accepted has what it relies on
pub accepted_relies : (s : Sight) (volume : ℕ) (ask : Asked) (op : Op) → accept s volume ask ≡ Ok op → Relies s volume op
unfolding accept
accepted_relies s volume (Create path mode owner) op h = creation_is s volume (ending path) (λ dir name fid. CreateOp dir name fid mode owner) op (λ dir name fid may. may) h
accepted_relies s volume (Mkdir path mode owner) op h = creation_is s volume (ending path) (λ dir name fid. MkdirOp dir name fid mode owner) op (λ dir name fid may. may) h
accepted_relies s volume (Symlink path target) op h = creation_is s volume (ending path) (λ dir name fid. SymlinkOp dir name fid target 511 0) op (λ dir name fid may. may) h
accepted_relies s volume (Store path content) op h =
    let a = found_then (resolve s.held.nodes (root_of volume) path) (λ fid. store_at (map.get s.held.nodes fid) fid content) op h in
    store_at_is s volume (map.get s.held.nodes a.0) a.0 content op (resolve_has s.held.nodes (root_of volume) path a.0 a.1) a.2
accepted_relies s volume (Setattr path attrs) op h =
    let a = found_then (resolve s.held.nodes (root_of volume) path) (λ fid. setattr_at (map.get s.held.nodes fid) fid attrs) op h in
    setattr_is s volume (map.get s.held.nodes a.0) a.0 attrs op (resolve_has s.held.nodes (root_of volume) path a.0 a.1) a.2
accepted_relies s volume (Remove path) op h = relies_remove s volume (ending path) op h
accepted_relies s volume (Rmdir path) op h = relies_rmdir s volume (ending path) op h
accepted_relies s volume (Rename from to) op h = relies_rename s volume (ending from) (ending to) op h
