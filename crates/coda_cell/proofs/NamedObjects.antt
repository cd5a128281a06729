-- The objects that an accepted operation names: they are of its volume, and held, or the next one of the client.
use Rattle.std.proofs.Common.{◌≡◌, ℕ, Bool, true, false, ◌||◌, ◌&&◌, not, ◌==◌, List, [], ◌∷◌, Option, Some, None, is_some, Ok, refl, sym, ap, subst, ◌∙◌, inl, inr, ◌⊎◌}
use Rattle.std.specs.List.{list_any}
use Rattle.std.specs.FinMap as map
use Rattle.std.proofs.lemmas.Bool.{or_cases, false≢true}
use Rattle.coda_fid.specs.Fid.{same_fid, root_of}
use Rattle.coda_fid.specs.Op.{over_fids}
use Rattle.coda_fid.specs.declared.fid.Fid.{Fid}
use Rattle.coda_fid.specs.declared.fid.Sid.{Sid}
use Rattle.coda_fid.specs.declared.op.Attrs.{Attrs}
use Rattle.coda_fid.specs.declared.op.Over.{Over}
use Rattle.coda_fid.specs.declared.op.Op.{Op}
use Rattle.coda_fid.specs.declared.op.Op.TheVariants.{Create as CreateOp, Mkdir as MkdirOp, Symlink as SymlinkOp, Store as StoreOp, Setattr as SetattrOp, Remove as RemoveOp, Rmdir as RmdirOp, Rename as RenameOp}
use Rattle.coda_fid.proofs.Fids.{same_fid_refl}
use Rattle.coda_tree.specs.declared.node.Node.{Node}
use Rattle.coda_tree.specs.declared.node.NodeKind.{NodeKind}
use Rattle.coda_tree.specs.declared.node.NodeKind.TheVariants.{File, Link, Dir}
use Rattle.coda_tree.specs.Bindings.{Name}
use Rattle.coda_tree.specs.Volume.{Nodes, has, IsDirNode}
use Rattle.coda_cancel.specs.Dropping.{mentioning, creates}
use Rattle.coda_cancel.proofs.Keys.{fid_true}
use Rattle.coda_venus.specs.declared.refused.Refused.TheVariants.{Exists, IsDir as IsADirectory, Loop}
use Rattle.coda_venus.specs.Ask.{Asked, Create, Mkdir, Symlink, Store, Setattr, Remove, Rmdir, Rename, Ending, ending}
use Rattle.coda_venus.specs.Held.{is_below, some_below}
use Rattle.coda_venus.specs.Looking.{then_find, held, step_from, resolve}
use Rattle.coda_venus.specs.Accepting.{Sight, next_fid, new_under, new_place, accept_creation, store_in, store_at, setattr_at, remove_in, remove_at, rmdir_of, rmdir_in, rmdir_at, bound_at, spot, place, replaced_by, move_to, rename_to, rename_root, accept_rename, accept_remove, accept_rmdir, accept}
use Rattle.coda_cell.specs.Kept.{AreWithin}
use Rattle.coda_venus.proofs.Accepted.{Relies, accepted_relies, ok_is, found_then, not_at_root, held_is, step_is, spot_is, unless_below, root_stays}

-- within its volume
pub resolve_within : (m : Nodes) → AreWithin m → (at : Fid) (names : List Name) (fid : Fid) → resolve m at names ≡ Ok fid → fid.volume ≡ at.volume
resolve_within m within at [] fid h = ap (λ (f : Fid). f.volume) (sym (held_is (map.get m at) at fid h).0)
resolve_within m within at (name ∷ names) fid h =
    let a = found_then (step_from (map.get m at) at name) (λ next. resolve m next names) fid h in
    resolve_within m within a.0 names fid a.2 ∙ within at a.0 name (step_is (map.get m at) at name a.0 a.1).1

-- the directories that an operation changes, and the object that it writes, are of the volume
abbrev pub IsLedTo : ℕ → Op → Type 0
IsLedTo volume (CreateOp dir name fid mode owner) = dir.volume ≡ volume
IsLedTo volume (MkdirOp dir name fid mode owner) = dir.volume ≡ volume
IsLedTo volume (SymlinkOp dir name fid target mode owner) = dir.volume ≡ volume
IsLedTo volume (StoreOp fid pre content) = fid.volume ≡ volume
IsLedTo volume (SetattrOp fid pre attrs) = fid.volume ≡ volume
IsLedTo volume (RemoveOp dir name fid pre) = dir.volume ≡ volume
IsLedTo volume (RmdirOp dir name fid pre) = dir.volume ≡ volume
IsLedTo volume (RenameOp from_dir from to_dir to fid over) = (from_dir.volume ≡ volume) × (to_dir.volume ≡ volume)

led_creation : (s : Sight) (volume : ℕ) (e : Ending) (make : Fid → Name → Fid → Op) (op : Op) → AreWithin s.held.nodes → ((dir : Fid) (name : Name) (fid : Fid) → dir.volume ≡ volume → IsLedTo volume (make dir name fid))
    → accept_creation s volume e make ≡ Ok op → IsLedTo volume op
led_creation s volume None make op within led h = absurd (not_at_root s volume Exists op h)
led_creation s volume (Some e) make op within led h =
    let m = s.held.nodes in
    let a = found_then (new_place s volume e) (λ p. Ok (make p.0 e.1 p.1)) op h in
    let b = found_then (resolve m (root_of volume) e.0) (λ dir. then_find (new_under s volume (map.get m dir) dir e.1) (λ fid. Ok (dir, fid))) a.0 a.1 in
    let d = found_then (new_under s volume (map.get m b.0) b.0 e.1) (λ fid. Ok (b.0, fid)) a.0 b.2 in
    let at = subst (λ (p : Fid × Fid). p.0.volume ≡ volume) (ok_is (b.0, d.0) a.0 d.2) (resolve_within m within (root_of volume) e.0 b.0 b.1) in
    subst (IsLedTo volume) (ok_is (make a.0.0 e.1 a.0.1) op a.2) (led a.0.0 e.1 a.0.1 at)

led_store : (volume : ℕ) (kind : NodeKind) (fid : Fid) (pre : Sid) (content : List ℕ) (op : Op) → fid.volume ≡ volume → store_in kind fid pre content ≡ Ok op → IsLedTo volume op
led_store volume (File old) fid pre content op at h = subst (IsLedTo volume) (ok_is (StoreOp fid pre content) op h) at
led_store volume (Link target) fid pre content op at h = cc
led_store volume (Dir entries) fid pre content op at h = cc

led_store_at : (volume : ℕ) (o : Option Node) (fid : Fid) (content : List ℕ) (op : Op) → fid.volume ≡ volume → store_at o fid content ≡ Ok op → IsLedTo volume op
led_store_at volume None fid content op at h = cc
led_store_at volume (Some node) fid content op at h = led_store volume node.kind fid node.sid content op at h

led_setattr : (volume : ℕ) (o : Option Node) (fid : Fid) (attrs : Attrs) (op : Op) → fid.volume ≡ volume → setattr_at o fid attrs ≡ Ok op → IsLedTo volume op
led_setattr volume None fid attrs op at h = cc
led_setattr volume (Some node) fid attrs op at h = subst (IsLedTo volume) (ok_is (SetattrOp fid node.sid attrs) op h) at

led_remove : (volume : ℕ) (kind : NodeKind) (dir : Fid) (name : Name) (fid : Fid) (pre : Sid) (op : Op) → dir.volume ≡ volume → remove_in kind dir name fid pre ≡ Ok op → IsLedTo volume op
led_remove volume (File content) dir name fid pre op at h = subst (IsLedTo volume) (ok_is (RemoveOp dir name fid pre) op h) at
led_remove volume (Link target) dir name fid pre op at h = subst (IsLedTo volume) (ok_is (RemoveOp dir name fid pre) op h) at
led_remove volume (Dir entries) dir name fid pre op at h = cc

led_remove_at : (volume : ℕ) (o : Option Node) (dir : Fid) (name : Name) (fid : Fid) (op : Op) → dir.volume ≡ volume → remove_at o dir name fid ≡ Ok op → IsLedTo volume op
led_remove_at volume None dir name fid op at h = cc
led_remove_at volume (Some node) dir name fid op at h = led_remove volume node.kind dir name fid node.sid op at h

led_rmdir_of : (volume : ℕ) (may : Bool) (dir : Fid) (name : Name) (fid : Fid) (pre : Sid) (op : Op) → dir.volume ≡ volume → rmdir_of may dir name fid pre ≡ Ok op → IsLedTo volume op
led_rmdir_of volume true dir name fid pre op at h = subst (IsLedTo volume) (ok_is (RmdirOp dir name fid pre) op h) at
led_rmdir_of volume false dir name fid pre op at h = cc

led_rmdir : (s : Sight) (volume : ℕ) (kind : NodeKind) (dir : Fid) (name : Name) (fid : Fid) (pre : Sid) (op : Op) → dir.volume ≡ volume → rmdir_in s kind dir name fid pre ≡ Ok op → IsLedTo volume op
led_rmdir s volume (File content) dir name fid pre op at h = cc
led_rmdir s volume (Link target) dir name fid pre op at h = cc
led_rmdir s volume (Dir entries) dir name fid pre op at h = led_rmdir_of volume ((map.len entries == 0) && not (some_below s.held s.is_dirty fid)) dir name fid pre op at h

led_rmdir_at : (s : Sight) (volume : ℕ) (o : Option Node) (dir : Fid) (name : Name) (fid : Fid) (op : Op) → dir.volume ≡ volume → rmdir_at s o dir name fid ≡ Ok op → IsLedTo volume op
led_rmdir_at s volume None dir name fid op at h = cc
led_rmdir_at s volume (Some node) dir name fid op at h = led_rmdir s volume node.kind dir name fid node.sid op at h

-- the directory of a spot, and of the place of a new name
led_spot : (m : Nodes) (volume : ℕ) (e : List Name × Name) (at : Fid × Fid) → AreWithin m → spot m volume e ≡ Ok at → at.0.volume ≡ volume
led_spot m volume e at within h = resolve_within m within (root_of volume) e.0 at.0 (spot_is m volume e at h).leads

led_place : (m : Nodes) (volume : ℕ) (e : List Name × Name) (p : Fid × Option Fid) → AreWithin m → place m volume e ≡ Ok p → p.0.volume ≡ volume
led_place m volume e p within h =
    let a = found_then (resolve m (root_of volume) e.0) (λ dir. then_find (bound_at m (map.get m dir) dir e.1) (λ bound. Ok (dir, bound))) p h in
    let b = found_then (bound_at m (map.get m a.0) a.0 e.1) (λ bound. Ok (a.0, bound)) p a.2 in
    subst (λ (p : Fid × Option Fid). p.0.volume ≡ volume) (ok_is (a.0, b.0) p b.2) (resolve_within m within (root_of volume) e.0 a.0 a.1)

led_move : (s : Sight) (volume : ℕ) (from_dir : Fid) (from : Name) (fid : Fid) (to : Name) (p : Fid × Option Fid) (op : Op) → from_dir.volume ≡ volume → p.0.volume ≡ volume → move_to s.held from_dir from fid to p ≡ Ok op → IsLedTo volume op
led_move s volume from_dir from fid to p op at there h =
    let m = s.held.nodes in
    let a = unless_below (is_below s.held.parents p.0 fid) (then_find (replaced_by m fid p.1) (λ over. Ok (RenameOp from_dir from p.0 to fid over))) op h in
    let b = found_then (replaced_by m fid p.1) (λ over. Ok (RenameOp from_dir from p.0 to fid over)) op a in
    subst (IsLedTo volume) (ok_is (RenameOp from_dir from p.0 to fid b.0) op b.2) (at, there)

led_rename_to : (s : Sight) (volume : ℕ) (from_dir : Fid) (from : Name) (fid : Fid) (to : Ending) (op : Op) → AreWithin s.held.nodes → from_dir.volume ≡ volume → rename_to s volume from_dir from fid to ≡ Ok op → IsLedTo volume op
led_rename_to s volume from_dir from fid None op within at h = absurd (not_at_root s volume Exists op h)
led_rename_to s volume from_dir from fid (Some e) op within at h =
    let a = found_then (place s.held.nodes volume e) (λ p. move_to s.held from_dir from fid e.1 p) op h in
    led_move s volume from_dir from fid e.1 a.0 op at (led_place s.held.nodes volume e a.0 within a.1) a.2

led_by_remove : (s : Sight) (volume : ℕ) (e : Ending) (op : Op) → AreWithin s.held.nodes → accept_remove s volume e ≡ Ok op → IsLedTo volume op
led_by_remove s volume None op within h = absurd (not_at_root s volume IsADirectory op h)
led_by_remove s volume (Some e) op within h =
    let a = found_then (spot s.held.nodes volume e) (λ at. remove_at (map.get s.held.nodes at.1) at.0 e.1 at.1) op h in
    led_remove_at volume (map.get s.held.nodes a.0.1) a.0.0 e.1 a.0.1 op (led_spot s.held.nodes volume e a.0 within a.1) a.2

led_by_rmdir : (s : Sight) (volume : ℕ) (e : Ending) (op : Op) → AreWithin s.held.nodes → accept_rmdir s volume e ≡ Ok op → IsLedTo volume op
led_by_rmdir s volume None op within h = absurd (not_at_root s volume Loop op h)
led_by_rmdir s volume (Some e) op within h =
    let a = found_then (spot s.held.nodes volume e) (λ at. rmdir_at s (map.get s.held.nodes at.1) at.0 e.1 at.1) op h in
    led_rmdir_at s volume (map.get s.held.nodes a.0.1) a.0.0 e.1 a.0.1 op (led_spot s.held.nodes volume e a.0 within a.1) a.2

led_by_rename : (s : Sight) (volume : ℕ) (from to : Ending) (op : Op) → AreWithin s.held.nodes → accept_rename s volume from to ≡ Ok op → IsLedTo volume op
led_by_rename s volume None to op within h =
    let a = found_then (held (map.get s.held.nodes (root_of volume)) (root_of volume)) (λ _. rename_root s volume to) op h in
    absurd (root_stays s volume to op a.2)
led_by_rename s volume (Some e) to op within h =
    let a = found_then (spot s.held.nodes volume e) (λ at. rename_to s volume at.0 e.1 at.1 to) op h in
    led_rename_to s volume a.0.0 e.1 a.0.1 to op within (led_spot s.held.nodes volume e a.0 within a.1) a.2

-- an accepted operation is led to by paths in its volume
pub accepted_led : (s : Sight) (volume : ℕ) (ask : Asked) (op : Op) → AreWithin s.held.nodes → accept s volume ask ≡ Ok op → IsLedTo volume op
unfolding accept
accepted_led s volume (Create path mode owner) op within h = led_creation s volume (ending path) (λ dir name fid. CreateOp dir name fid mode owner) op within (λ dir name fid at. at) h
accepted_led s volume (Mkdir path mode owner) op within h = led_creation s volume (ending path) (λ dir name fid. MkdirOp dir name fid mode owner) op within (λ dir name fid at. at) h
accepted_led s volume (Symlink path target) op within h = led_creation s volume (ending path) (λ dir name fid. SymlinkOp dir name fid target 511 0) op within (λ dir name fid at. at) h
accepted_led s volume (Store path content) op within h =
    let a = found_then (resolve s.held.nodes (root_of volume) path) (λ fid. store_at (map.get s.held.nodes fid) fid content) op h in
    led_store_at volume (map.get s.held.nodes a.0) a.0 content op (resolve_within s.held.nodes within (root_of volume) path a.0 a.1) a.2
accepted_led s volume (Setattr path attrs) op within h =
    let a = found_then (resolve s.held.nodes (root_of volume) path) (λ fid. setattr_at (map.get s.held.nodes fid) fid attrs) op h in
    led_setattr volume (map.get s.held.nodes a.0) a.0 attrs op (resolve_within s.held.nodes within (root_of volume) path a.0 a.1) a.2
accepted_led s volume (Remove path) op within h = led_by_remove s volume (ending path) op within h
accepted_led s volume (Rmdir path) op within h = led_by_rmdir s volume (ending path) op within h
accepted_led s volume (Rename from to) op within h = led_by_rename s volume (ending from) (ending to) op within h

-- an object that an operation may name: of the volume, and held, or the next one that the client creates there
abbrev pub IsNamed : Sight → ℕ → Op → Fid → Type 0
IsNamed s volume op fid = (fid.volume ≡ volume) × ((has s.held.nodes fid ≡ true) ⊎ ((creates fid op ≡ true) × (fid ≡ next_fid s volume)))

dir_has : (o : Option Node) → IsDirNode o → is_some o ≡ true
dir_has None is = absurd is
dir_has (Some node) is = refl

one_of : (Q : Fid → Type 0) (a fid : Fid) (more : Bool) → (same_fid a fid || more) ≡ true → Q a → (more ≡ true → Q fid) → Q fid
one_of Q a fid more h here then_ = elim (or_cases (same_fid a fid) more h) [ inl same ↦ subst Q (fid_true a fid same) here | inr is ↦ then_ is ]

-- it is the first or the second
one_of_two : (Q : Fid → Type 0) (a b fid : Fid) → (same_fid a fid || (same_fid b fid || false)) ≡ true → Q a → Q b → Q fid
one_of_two Q a b fid h first second = one_of Q a fid (same_fid b fid || false) h first (λ more. one_of Q b fid false more second (λ no. absurd (false≢true no)))

named_over : (s : Sight) (volume : ℕ) (from_dir : Fid) (from : Name) (to_dir : Fid) (to : Name) (it : Fid) (over : Option Over) → AreWithin s.held.nodes → Relies s volume (RenameOp from_dir from to_dir to it over) → to_dir.volume ≡ volume
    → (fid : Fid) → list_any (λ f. same_fid f fid) (over_fids over) ≡ true → IsNamed s volume (RenameOp from_dir from to_dir to it over) fid
named_over s volume from_dir from to_dir to it None within r led fid h = absurd (false≢true h)
named_over s volume from_dir from to_dir to it (Some v) within r led fid h =
    one_of (IsNamed s volume (RenameOp from_dir from to_dir to it (Some v))) v.fid fid false h (within to_dir v.fid to r.places.bound ∙ led, inl r.replaced.0) (λ no. absurd (false≢true no))

named_by : (s : Sight) (volume : ℕ) (op : Op) → AreWithin s.held.nodes → Relies s volume op → IsLedTo volume op → (fid : Fid) → mentioning fid op ≡ true → IsNamed s volume op fid
named_by s volume (CreateOp dir name new mode owner) within r led fid h =
    one_of_two (IsNamed s volume (CreateOp dir name new mode owner)) dir new fid h (led, inl (dir_has (map.get s.held.nodes dir) r.place.dir_there)) (ap (λ (f : Fid). f.volume) r.next, inr (same_fid_refl new, r.next))
named_by s volume (MkdirOp dir name new mode owner) within r led fid h =
    one_of_two (IsNamed s volume (MkdirOp dir name new mode owner)) dir new fid h (led, inl (dir_has (map.get s.held.nodes dir) r.place.dir_there)) (ap (λ (f : Fid). f.volume) r.next, inr (same_fid_refl new, r.next))
named_by s volume (SymlinkOp dir name new target mode owner) within r led fid h =
    one_of_two (IsNamed s volume (SymlinkOp dir name new target mode owner)) dir new fid h (led, inl (dir_has (map.get s.held.nodes dir) r.place.dir_there)) (ap (λ (f : Fid). f.volume) r.next, inr (same_fid_refl new, r.next))
named_by s volume (StoreOp it pre content) within r led fid h = one_of (IsNamed s volume (StoreOp it pre content)) it fid false h (led, inl r) (λ no. absurd (false≢true no))
named_by s volume (SetattrOp it pre attrs) within r led fid h = one_of (IsNamed s volume (SetattrOp it pre attrs)) it fid false h (led, inl r) (λ no. absurd (false≢true no))
named_by s volume (RemoveOp dir name it pre) within r led fid h =
    one_of_two (IsNamed s volume (RemoveOp dir name it pre)) dir it fid h (led, inl (dir_has (map.get s.held.nodes dir) r.0.dir_there)) (within dir it name r.0.bound ∙ led, inl r.1)
named_by s volume (RmdirOp dir name it pre) within r led fid h =
    one_of_two (IsNamed s volume (RmdirOp dir name it pre)) dir it fid h (led, inl (dir_has (map.get s.held.nodes dir) r.0.dir_there)) (within dir it name r.0.bound ∙ led, inl r.1)
named_by s volume (RenameOp from_dir from to_dir to it over) within r led fid h =
    let named : Fid → Type 0 = IsNamed s volume (RenameOp from_dir from to_dir to it over) in
    let first = one_of named from_dir fid (same_fid to_dir fid || (same_fid it fid || list_any (λ f. same_fid f fid) (over_fids over))) h (led.0, inl (dir_has (map.get s.held.nodes from_dir) r.places.from_there)) in
    let second = one_of named to_dir fid (same_fid it fid || list_any (λ f. same_fid f fid) (over_fids over)) in
    let third = one_of named it fid (list_any (λ f. same_fid f fid) (over_fids over)) in
    first (λ more. second more (led.1, inl (dir_has (map.get s.held.nodes to_dir) r.places.to_there)) (λ rest. third rest (within from_dir it from r.bound ∙ led.0, inl r.there) (λ last. named_over s volume from_dir from to_dir to it over within r led.1 fid last)))

-- each object that an accepted operation names is of its volume, and is held, or is the next one, which it creates
pub accepted_names : (s : Sight) (volume : ℕ) (ask : Asked) (op : Op) → AreWithin s.held.nodes → accept s volume ask ≡ Ok op → (fid : Fid) → mentioning fid op ≡ true
    → (fid.volume ≡ volume) × ((has s.held.nodes fid ≡ true) ⊎ ((creates fid op ≡ true) × (fid ≡ next_fid s volume)))
accepted_names s volume ask op within accepted = named_by s volume op within (accepted_relies s volume ask op accepted) (accepted_led s volume ask op within accepted)

pub creates_next : (s : Sight) (volume : ℕ) (op : Op) → Relies s volume op → (fid : Fid) → creates fid op ≡ true → fid ≡ next_fid s volume
creates_next s volume (CreateOp dir name new mode owner) r fid h = sym (fid_true new fid h) ∙ r.next
creates_next s volume (MkdirOp dir name new mode owner) r fid h = sym (fid_true new fid h) ∙ r.next
creates_next s volume (SymlinkOp dir name new target mode owner) r fid h = sym (fid_true new fid h) ∙ r.next
creates_next s volume (StoreOp it pre content) r fid h = absurd (false≢true h)
creates_next s volume (SetattrOp it pre attrs) r fid h = absurd (false≢true h)
creates_next s volume (RemoveOp dir name it pre) r fid h = absurd (false≢true h)
creates_next s volume (RmdirOp dir name it pre) r fid h = absurd (false≢true h)
creates_next s volume (RenameOp from_dir from to_dir to it over) r fid h = absurd (false≢true h)

-- what an accepted operation creates is the next object of the client
pub accepted_creates : (s : Sight) (volume : ℕ) (ask : Asked) (op : Op) → accept s volume ask ≡ Ok op → (fid : Fid) → creates fid op ≡ true → fid ≡ next_fid s volume
accepted_creates s volume ask op accepted = creates_next s volume op (accepted_relies s volume ask op accepted)
