-- An object that acceptance needs isn't there, and is a volume's root or bound.
use Rattle.std.proofs.Common.{◌≡◌, ℕ, ◌||◌, Bool, true, false, cond, List, [], ◌∷◌, Option, Some, None, is_some}
use Rattle.std.proofs.Common.{Result, Ok, Err, refl, sym, ap, ◌∙◌, inl, inr, ◌⊎◌, ⊎_elim}
use Rattle.std.proofs.lemmas.Bool.{false≢true}
use Rattle.std.specs.FinMap as map
use Rattle.coda_fid.specs.Fid.{root_of, same_fid}
use Rattle.coda_fid.specs.declared.fid.Fid.{Fid}
use Rattle.coda_fid.specs.declared.fid.Sid.{Sid}
use Rattle.coda_fid.specs.declared.op.Over.{Over}
use Rattle.coda_fid.specs.declared.op.Op.{Op}
use Rattle.coda_fid.specs.declared.op.Op.TheVariants.{Create as CreateOp, Mkdir as MkdirOp, Symlink as SymlinkOp}
use Rattle.coda_fid.specs.declared.op.Op.TheVariants.{Setattr as SetattrOp, Rename as RenameOp}
use Rattle.coda_tree.specs.declared.node.Node.{Node}
use Rattle.coda_tree.specs.declared.node.NodeKind.{NodeKind}
use Rattle.coda_tree.specs.declared.node.NodeKind.TheVariants.{File, Link, Dir}
use Rattle.coda_tree.specs.Bindings.{Name}
use Rattle.coda_tree.specs.Volume.{Nodes, bindings, child_of, has}
use Rattle.coda_venus.specs.declared.refused.Refused.{Refused}
use Rattle.coda_venus.specs.declared.refused.Refused.TheVariants.{Exists, IsDir, Loop, Need, JournalFull}
use Rattle.coda_venus.specs.Ask.{Asked, Create, Mkdir, Symlink, Store, Setattr, Remove, Rmdir, Rename, Ending, ending}
use Rattle.coda_venus.specs.Held.{Held, is_below}
use Rattle.coda_venus.specs.Looking.{then_find, held, found, step_in, step_from, resolve}
use Rattle.coda_venus.specs.Accepting.{Accepted, Sight, next_fid, is_used_up, unless_used, new_fid, new_at, new_in}
use Rattle.coda_venus.specs.Accepting.{new_under, new_place, at_root, accept_creation, store_in, store_at, setattr_at}
use Rattle.coda_venus.specs.Accepting.{remove_in, remove_at, rmdir_of, rmdir_in, rmdir_at, spot, held_bound, bound_in}
use Rattle.coda_venus.specs.Accepting.{bound_at, place, is_dir_at, with_version, replaced_by, move_to, rename_to}
use Rattle.coda_venus.specs.Accepting.{rename_root, accept_rename, accept_remove, accept_rmdir, accept}
use Rattle.coda_venus.proofs.Accepted.{place_is, resolve_has, spot_is, step_is}
use Rattle.coda_rounds.specs.Sights.{NeededObjectsAreMissing, IsLedTo, NeededObjectsAreLedTo}

-- the object is needed
abbrev pub Needs : {A : Type 0} → Fid → Result A Refused → Type 0
Needs f r = r ≡ Err (Need f)

pub then_needs : {A B : Type 0} (f : Fid) (r : Result A Refused) (next : A → Result B Refused)
    → Needs f (then_find r next) → Needs f r ⊎ ((y : A) × (r ≡ Ok y) × Needs f (next y))
then_needs f (Err why) next h = inl (cc)
then_needs f (Ok y) next h = inr (y, refl, h)

if_needs : {A : Type 0} (f : Fid) (b : Bool) (x y : Result A Refused) → Needs f (cond b x y) → Needs f x ⊎ Needs f y
if_needs f true x y h = inl h
if_needs f false x y h = inr h

ok_needs : {A : Type 0} (f : Fid) (x : A) → (let ok : A → Result A Refused = λ z. Ok z in Needs f (ok x)) → ⊥
ok_needs f x h = cc

module _ (f : Fid) where
  -- what needs f finds nothing there, and was led to it
  abbrev pub None_at : Nodes → Type 0
  None_at m = (map.get m f ≡ None) × IsLedTo m f

  -- where the object is f and isn't there, something led to it
  abbrev pub Leads : Nodes → Fid → Type 0
  Leads m at = at ≡ f → map.get m at ≡ None → IsLedTo m f

  pub root_leads : (m : Nodes) (volume : ℕ) → Leads m (root_of volume)
  root_leads m volume same none = inl (sym same ∙ ap (λ (x : Fid). root_of x.volume) same)

  pub there_leads : (m : Nodes) (at : Fid) → has m at ≡ true → Leads m at
  there_leads m at there same none = absurd (false≢true (ap is_some (sym none) ∙ there))

  pub step_leads : (m : Nodes) (at : Fid) (name : Name) (next : Fid) → step_from (map.get m at) at name ≡ Ok next
      → Leads m next
  step_leads m at name next step same none = inr (at, name, (step_is (map.get m at) at name next step).1 ∙ ap Some same)

  found_none : (m : Nodes) (at : Fid) → Leads m at → at ≡ f → map.get m at ≡ None → None_at m
  found_none m at leads same e = (ap (map.get m) (sym same) ∙ e, leads same e)

  pub held_needs : (m : Nodes) (at : Fid) → Leads m at → Needs f (held (map.get m at) at) → None_at m
  held_needs m at leads h = go (map.get m at) refl h
    where
      go : (o : Option Node) → map.get m at ≡ o → Needs f (held o at) → None_at m
      go None e h = let same : at ≡ f = cc in found_none m at leads same e
      go (Some node) e h = absurd (ok_needs f at h)

  found_needs : (o : Option Fid) → Needs f (found o) → ⊥
  found_needs None h = cc
  found_needs (Some g) h = ok_needs f g h

  step_in_needs : (kind : NodeKind) (name : Name) → Needs f (step_in kind name) → ⊥
  step_in_needs (File content) name h = cc
  step_in_needs (Link target) name h = cc
  step_in_needs (Dir entries) name h = found_needs (map.get entries name) h

  step_needs : (m : Nodes) (at : Fid) (name : Name) → Leads m at → Needs f (step_from (map.get m at) at name)
      → None_at m
  step_needs m at name leads h = go (map.get m at) refl h
    where
      go : (o : Option Node) → map.get m at ≡ o → Needs f (step_from o at name) → None_at m
      go None e h = let same : at ≡ f = cc in found_none m at leads same e
      go (Some node) e h = absurd (step_in_needs node.kind name h)

  pub resolve_needs : (m : Nodes) (at : Fid) (names : List Name) → Leads m at → Needs f (resolve m at names)
      → None_at m
  resolve_needs m at [] leads h = held_needs m at leads h
  resolve_needs m at (name ∷ names) leads h = ⊎_elim
      (λ (e : Needs f (step_from (map.get m at) at name)). step_needs m at name leads e)
      (λ (e : (next : Fid) × (step_from (map.get m at) at name ≡ Ok next) × Needs f (resolve m next names)).
      resolve_needs m e.0 names (step_leads m at name e.0 e.1) e.2)
      (then_needs f (step_from (map.get m at) at name) (λ next. resolve m next names) h)

  -- a refusal that is none for an object that is needed
  abbrev IsOther : Refused → Type 0
  IsOther why = (g : Fid) → ◌≡◌ {A = Refused} why (Need g) → ⊥

  refusal_needs : {A : Type 0} (why : Refused) → IsOther why
      → (let refuse : Refused → Result A Refused = λ z. Err z in Needs f (refuse why)) → ⊥
  refusal_needs why other h = other f (cc)

  root_needs : (s : Sight) (volume : ℕ) (why : Refused) → IsOther why → Needs f (at_root s volume why)
      → None_at s.held.nodes
  root_needs s volume why other h = ⊎_elim
      (λ (e : Needs f (held (map.get s.held.nodes (root_of volume)) (root_of volume))). held_needs s.held.nodes
      (root_of volume) (root_leads s.held.nodes volume) e)
      (λ (e : (y : Fid) × (held (map.get s.held.nodes (root_of volume)) (root_of volume) ≡ Ok y)
      × (let refuse : Refused → Accepted = λ z. Err z in Needs f (refuse why))). absurd (refusal_needs why other e.2))
      (then_needs f (held (map.get s.held.nodes (root_of volume)) (root_of volume)) (λ _. let refuse : Refused → Accepted = λ z. Err z in refuse why) h)

  -- ---- creations

  unused_needs : (b : Bool) (g : Fid) → Needs f (unless_used b g) → ⊥
  unused_needs true g h = cc
  unused_needs false g h = ok_needs f g h

  new_fid_needs : (s : Sight) (volume : ℕ) → Needs f (new_fid s volume) → ⊥
  new_fid_needs s volume h =
      ⊎_elim (λ (e : Needs f (let refuse : Refused → Result Fid Refused = λ z. Err z in refuse JournalFull)). absurd
      (cc)) (λ (e : Needs f (unless_used (is_some (map.get s.held.nodes (next_fid s volume))) (next_fid s volume))).
      unused_needs _ _ e) (if_needs f (is_used_up s) (Err JournalFull)
      (unless_used (is_some (map.get s.held.nodes (next_fid s volume))) (next_fid s volume)) h)

  new_at_needs : (s : Sight) (volume : ℕ) (o : Option Fid) → Needs f (new_at s volume o) → ⊥
  new_at_needs s volume None h = new_fid_needs s volume h
  new_at_needs s volume (Some g) h = cc

  new_in_needs : (s : Sight) (volume : ℕ) (kind : NodeKind) (name : Name) → Needs f (new_in s volume kind name) → ⊥
  new_in_needs s volume (File content) name h = cc
  new_in_needs s volume (Link target) name h = cc
  new_in_needs s volume (Dir entries) name h = new_at_needs s volume (map.get entries name) h

  new_under_needs : (s : Sight) (volume : ℕ) (dir : Fid) (name : Name) → Leads s.held.nodes dir
      → Needs f (new_under s volume (map.get s.held.nodes dir) dir name) → None_at s.held.nodes
  new_under_needs s volume dir name leads h = go (map.get s.held.nodes dir) refl h
    where
      go : (o : Option Node) → map.get s.held.nodes dir ≡ o → Needs f (new_under s volume o dir name)
          → None_at s.held.nodes
      go None e h = let same : dir ≡ f = cc in found_none s.held.nodes dir leads same e
      go (Some node) e h = absurd (new_in_needs s volume node.kind name h)

  new_place_needs : (s : Sight) (volume : ℕ) (e : List Name × Name) → Needs f (new_place s volume e)
      → None_at s.held.nodes
  new_place_needs s volume e h =
      let inner : Fid → Result (Fid × Fid) Refused = λ dir. then_find (new_under s volume (map.get s.held.nodes dir) dir e.1) (λ fid. Ok (dir, fid)) in ⊎_elim
      (λ (a : Needs f (resolve s.held.nodes (root_of volume) e.0)). resolve_needs s.held.nodes (root_of volume) e.0
      (root_leads s.held.nodes volume) a)
      (λ (a : (dir : Fid) × (resolve s.held.nodes (root_of volume) e.0 ≡ Ok dir) × Needs f (inner dir)). ⊎_elim
      (λ (b : Needs f (new_under s volume (map.get s.held.nodes a.0) a.0 e.1)). new_under_needs s volume a.0 e.1
      (there_leads s.held.nodes a.0 (resolve_has s.held.nodes (root_of volume) e.0 a.0 a.1)) b)
      (λ (b : (fid : Fid) × (new_under s volume (map.get s.held.nodes a.0) a.0 e.1 ≡ Ok fid) × Needs f
      (let ok : Fid × Fid → Result (Fid × Fid) Refused = λ z. Ok z in ok (a.0, fid))). absurd
      (ok_needs f (a.0, b.0) b.2))
      (then_needs f (new_under s volume (map.get s.held.nodes a.0) a.0 e.1) (λ fid. let ok : Fid × Fid → Result (Fid × Fid) Refused = λ z. Ok z in ok (a.0, fid)) a.2))
      (then_needs f (resolve s.held.nodes (root_of volume) e.0) inner h)

  creation_needs : (s : Sight) (volume : ℕ) (e : Ending) (make : Fid → Name → Fid → Op)
      → Needs f (accept_creation s volume e make) → None_at s.held.nodes
  creation_needs s volume None make h = root_needs s volume Exists (λ g e. cc) h
  creation_needs s volume (Some e) make h = ⊎_elim
      (λ (a : Needs f (new_place s volume e)). new_place_needs s volume e a)
      (λ (a : (p : Fid × Fid) × (new_place s volume e ≡ Ok p) × Needs f
      (let ok : Op → Accepted = λ z. Ok z in ok (make p.0 e.1 p.1))). absurd (ok_needs f (make a.0.0 e.1 a.0.1) a.2))
      (then_needs f (new_place s volume e) (λ p. let ok : Op → Accepted = λ z. Ok z in ok (make p.0 e.1 p.1)) h)

  -- ---- operations on an object

  store_in_needs : (kind : NodeKind) (fid : Fid) (pre : Sid) (content : List ℕ)
      → Needs f (store_in kind fid pre content) → ⊥
  store_in_needs (File old) fid pre content h = cc
  store_in_needs (Link target) fid pre content h = cc
  store_in_needs (Dir entries) fid pre content h = cc

  remove_in_needs : (kind : NodeKind) (dir : Fid) (name : Name) (fid : Fid) (pre : Sid)
      → Needs f (remove_in kind dir name fid pre) → ⊥
  remove_in_needs (File content) dir name fid pre h = cc
  remove_in_needs (Link target) dir name fid pre h = cc
  remove_in_needs (Dir entries) dir name fid pre h = cc

  rmdir_of_needs : (b : Bool) (dir : Fid) (name : Name) (fid : Fid) (pre : Sid)
      → Needs f (rmdir_of b dir name fid pre) → ⊥
  rmdir_of_needs true dir name fid pre h = cc
  rmdir_of_needs false dir name fid pre h = cc

  rmdir_in_needs : (s : Sight) (kind : NodeKind) (dir : Fid) (name : Name) (fid : Fid) (pre : Sid)
      → Needs f (rmdir_in s kind dir name fid pre) → ⊥
  rmdir_in_needs s (File content) dir name fid pre h = cc
  rmdir_in_needs s (Link target) dir name fid pre h = cc
  rmdir_in_needs s (Dir entries) dir name fid pre h = rmdir_of_needs _ dir name fid pre h

  -- what is asked of the node of an object
  at_node : {A : Type 0} (m : Nodes) (see : Option Node → Fid → Result A Refused)
      → ((g : Fid) → see None g ≡ Err (Need g)) → ((node : Node) (g : Fid) → Needs f (see (Some node) g) → ⊥)
      → (at : Fid) → Leads m at → Needs f (see (map.get m at) at) → None_at m
  at_node {A} m see none some at leads h = go (map.get m at) refl h
    where
      go : (o : Option Node) → map.get m at ≡ o → Needs f (see o at) → None_at m
      go None e h = let both : ◌≡◌ {A = Result A Refused} (Err (Need at)) (Err (Need f)) = sym (none at) ∙ h in let same : at ≡ f = cc in found_none m at leads same e
      go (Some node) e h = absurd (some node at h)

  spot_needs : (m : Nodes) (volume : ℕ) (e : List Name × Name) → Needs f (spot m volume e) → None_at m
  spot_needs m volume e h =
      let last : Fid → Fid → Result (Fid × Fid) Refused = λ dir fid. then_find (held (map.get m fid) fid) (λ there. Ok (dir, there)) in
      let inner : Fid → Result (Fid × Fid) Refused = λ dir. then_find (step_from (map.get m dir) dir e.1) (last dir) in ⊎_elim
      (λ (a : Needs f (resolve m (root_of volume) e.0)). resolve_needs m (root_of volume) e.0 (root_leads m volume) a)
      (λ (a : (dir : Fid) × (resolve m (root_of volume) e.0 ≡ Ok dir) × Needs f (inner dir)). ⊎_elim
      (λ (b : Needs f (step_from (map.get m a.0) a.0 e.1)). step_needs m a.0 e.1
      (there_leads m a.0 (resolve_has m (root_of volume) e.0 a.0 a.1)) b)
      (λ (b : (fid : Fid) × (step_from (map.get m a.0) a.0 e.1 ≡ Ok fid) × Needs f (last a.0 fid)). ⊎_elim
      (λ (c : Needs f (held (map.get m b.0) b.0)). held_needs m b.0 (step_leads m a.0 e.1 b.0 b.1) c)
      (λ (c : (there : Fid) × (held (map.get m b.0) b.0 ≡ Ok there) × Needs f
      (let ok : Fid × Fid → Result (Fid × Fid) Refused = λ z. Ok z in ok (a.0, there))). absurd
      (ok_needs f (a.0, c.0) c.2))
      (then_needs f (held (map.get m b.0) b.0) (λ there. let ok : Fid × Fid → Result (Fid × Fid) Refused = λ z. Ok z in ok (a.0, there)) b.2))
      (then_needs f (step_from (map.get m a.0) a.0 e.1) (last a.0) a.2))
      (then_needs f (resolve m (root_of volume) e.0) inner h)

  -- ---- a rename

  bound_needs : (m : Nodes) (o : Option Fid) → ((g : Fid) → o ≡ Some g → Leads m g) → Needs f (held_bound m o)
      → None_at m
  bound_needs m None leads h = absurd (cc)
  bound_needs m (Some g) leads h = ⊎_elim
      (λ (a : Needs f (held (map.get m g) g)). held_needs m g (leads g refl) a)
      (λ (a : (there : Fid) × (held (map.get m g) g ≡ Ok there) × Needs f
      (let ok : Option Fid → Result (Option Fid) Refused = λ z. Ok z in ok (Some there))). absurd
      (ok_needs f (Some a.0) a.2))
      (then_needs f (held (map.get m g) g) (λ there. let ok : Option Fid → Result (Option Fid) Refused = λ z. Ok z in ok (Some there)) h)

  bound_in_needs : (m : Nodes) (kind : NodeKind) (name : Name)
      → ((g : Fid) → map.get (bindings kind) name ≡ Some g → Leads m g) → Needs f (bound_in m kind name) → None_at m
  bound_in_needs m (File content) name leads h = absurd (cc)
  bound_in_needs m (Link target) name leads h = absurd (cc)
  bound_in_needs m (Dir entries) name leads h = bound_needs m (map.get entries name) leads h

  bound_at_needs : (m : Nodes) (dir : Fid) (name : Name) → has m dir ≡ true → Needs f (bound_at m (map.get m dir) dir name) → None_at m
  bound_at_needs m dir name there h = go (map.get m dir) refl h
    where
      go : (o : Option Node) → map.get m dir ≡ o → Needs f (bound_at m o dir name) → None_at m
      go None e h = let same : dir ≡ f = cc in found_none m dir (there_leads m dir there) same e
      go (Some node) e h =
          bound_in_needs m node.kind name
          (λ g at same none. inr (dir, name, ap (λ o. child_of o name) e ∙ at ∙ ap Some same)) h

  place_needs : (m : Nodes) (volume : ℕ) (e : List Name × Name) → Needs f (place m volume e) → None_at m
  place_needs m volume e h =
      let inner : Fid → Result (Fid × Option Fid) Refused = λ dir. then_find (bound_at m (map.get m dir) dir e.1) (λ bound. Ok (dir, bound)) in ⊎_elim
      (λ (a : Needs f (resolve m (root_of volume) e.0)). resolve_needs m (root_of volume) e.0 (root_leads m volume) a)
      (λ (a : (dir : Fid) × (resolve m (root_of volume) e.0 ≡ Ok dir) × Needs f (inner dir)). ⊎_elim
      (λ (b : Needs f (bound_at m (map.get m a.0) a.0 e.1)). bound_at_needs m a.0 e.1
      (resolve_has m (root_of volume) e.0 a.0 a.1) b)
      (λ (b : (bound : Option Fid) × (bound_at m (map.get m a.0) a.0 e.1 ≡ Ok bound) × Needs f
      (let ok : Fid × Option Fid → Result (Fid × Option Fid) Refused = λ z. Ok z in ok (a.0, bound))). absurd
      (ok_needs f (a.0, b.0) b.2))
      (then_needs f (bound_at m (map.get m a.0) a.0 e.1) (λ bound. let ok : Fid × Option Fid → Result (Fid × Option Fid) Refused = λ z. Ok z in ok (a.0, bound)) a.2))
      (then_needs f (resolve m (root_of volume) e.0) inner h)

  version_needs : (m : Nodes) (old : Fid) → Leads m old → Needs f (with_version (map.get m old) old) → None_at m
  version_needs m old leads h =
      at_node m with_version (λ g. refl) (λ node g h. ok_needs f (Some (record { fid = g; pre = node.sid })) h) old
      leads h

  replaced_needs : (m : Nodes) (fid : Fid) (o : Option Fid) → ((g : Fid) → o ≡ Some g → Leads m g) → Needs f (replaced_by m fid o) → None_at m
  replaced_needs m fid None leads h = absurd (cc)
  replaced_needs m fid (Some old) leads h = ⊎_elim
      (λ (e : Needs f (let refuse : Refused → Result (Option Over) Refused = λ z. Err z in refuse Exists)). absurd (cc))
      (λ (e : Needs f (with_version (map.get m old) old)). version_needs m old (leads old refl) e)
      (if_needs f (same_fid old fid || (is_dir_at (map.get m fid) || is_dir_at (map.get m old))) (Err Exists)
      (with_version (map.get m old) old) h)

  move_needs : (h : Held) (from_dir : Fid) (from : Name) (fid : Fid) (to : Name) (p : Fid × Option Fid)
      → ((g : Fid) → p.1 ≡ Some g → Leads h.nodes g) → Needs f (move_to h from_dir from fid to p) → None_at h.nodes
  move_needs h from_dir from fid to p leads n =
      let rest : Accepted = then_find (replaced_by h.nodes fid p.1) (λ over. Ok (RenameOp from_dir from p.0 to fid over)) in ⊎_elim
      (λ (e : Needs f (let refuse : Refused → Accepted = λ z. Err z in refuse Loop)). absurd (cc))
      (λ (e : Needs f rest). ⊎_elim
      (λ (a : Needs f (replaced_by h.nodes fid p.1)). replaced_needs h.nodes fid p.1 leads a)
      (λ (a : (over : Option Over) × (replaced_by h.nodes fid p.1 ≡ Ok over) × Needs f
      (let ok : Op → Accepted = λ z. Ok z in ok (RenameOp from_dir from p.0 to fid over))). absurd
      (ok_needs f (RenameOp from_dir from p.0 to fid a.0) a.2))
      (then_needs f (replaced_by h.nodes fid p.1) (λ over. let ok : Op → Accepted = λ z. Ok z in ok (RenameOp from_dir from p.0 to fid over)) e))
      (if_needs f (is_below h.parents p.0 fid) (Err Loop) rest n)

  rename_to_needs : (s : Sight) (volume : ℕ) (from_dir : Fid) (from : Name) (fid : Fid) (e : Ending)
      → Needs f (rename_to s volume from_dir from fid e) → None_at s.held.nodes
  rename_to_needs s volume from_dir from fid None h = root_needs s volume Exists (λ g e. cc) h
  rename_to_needs s volume from_dir from fid (Some e) h = ⊎_elim
      (λ (a : Needs f (place s.held.nodes volume e)). place_needs s.held.nodes volume e a)
      (λ (a : (p : Fid × Option Fid) × (place s.held.nodes volume e ≡ Ok p) × Needs f
      (move_to s.held from_dir from fid e.1 p)). move_needs s.held from_dir from fid e.1 a.0
      (λ g at same none. inr (a.0.0, e.1, (place_is s.held.nodes volume e a.0 a.1).1 ∙ at ∙ ap Some same)) a.2)
      (then_needs f (place s.held.nodes volume e) (λ p. move_to s.held from_dir from fid e.1 p) h)

  rename_root_needs : (s : Sight) (volume : ℕ) (e : Ending) → Needs f (rename_root s volume e) → None_at s.held.nodes
  rename_root_needs s volume None h = root_needs s volume Loop (λ g e. cc) h
  rename_root_needs s volume (Some e) h = ⊎_elim
      (λ (a : Needs f (place s.held.nodes volume e)). place_needs s.held.nodes volume e a)
      (λ (a : (p : Fid × Option Fid) × (place s.held.nodes volume e ≡ Ok p) × Needs f
      (let refuse : Refused → Accepted = λ z. Err z in refuse Loop)). absurd
      (refusal_needs {A = Op} Loop (λ g e. cc) a.2))
      (then_needs f (place s.held.nodes volume e) (λ p. let refuse : Refused → Accepted = λ z. Err z in refuse Loop) h)

  rename_needs : (s : Sight) (volume : ℕ) (from to : Ending) → Needs f (accept_rename s volume from to)
      → None_at s.held.nodes
  rename_needs s volume None to h = ⊎_elim
      (λ (a : Needs f (held (map.get s.held.nodes (root_of volume)) (root_of volume))). held_needs s.held.nodes
      (root_of volume) (root_leads s.held.nodes volume) a)
      (λ (a : (y : Fid) × (held (map.get s.held.nodes (root_of volume)) (root_of volume) ≡ Ok y) × Needs f
      (rename_root s volume to)). rename_root_needs s volume to a.2)
      (then_needs f (held (map.get s.held.nodes (root_of volume)) (root_of volume)) (λ _. rename_root s volume to) h)
  rename_needs s volume (Some e) to h = ⊎_elim
      (λ (a : Needs f (spot s.held.nodes volume e)). spot_needs s.held.nodes volume e a)
      (λ (a : (at : Fid × Fid) × (spot s.held.nodes volume e ≡ Ok at) × Needs f
      (rename_to s volume at.0 e.1 at.1 to)). rename_to_needs s volume a.0.0 e.1 a.0.1 to a.2)
      (then_needs f (spot s.held.nodes volume e) (λ at. rename_to s volume at.0 e.1 at.1 to) h)

  -- ---- every kind

  -- what is asked at a spot
  at_spot : (s : Sight) (volume : ℕ) (e : List Name × Name) (see : (Fid × Fid) → Accepted)
      → ((at : Fid × Fid) → has s.held.nodes at.1 ≡ true → Needs f (see at) → None_at s.held.nodes)
      → Needs f (then_find (spot s.held.nodes volume e) see) → None_at s.held.nodes
  at_spot s volume e see sees h = ⊎_elim
      (λ (a : Needs f (spot s.held.nodes volume e)). spot_needs s.held.nodes volume e a)
      (λ (a : (at : Fid × Fid) × (spot s.held.nodes volume e ≡ Ok at) × Needs f (see at)). sees a.0
      (spot_is s.held.nodes volume e a.0 a.1).there a.2)
      (then_needs f (spot s.held.nodes volume e) see h)

  remove_needs : (s : Sight) (volume : ℕ) (e : Ending) → Needs f (accept_remove s volume e) → None_at s.held.nodes
  remove_needs s volume None h = root_needs s volume IsDir (λ g e. cc) h
  remove_needs s volume (Some e) h = at_spot s volume e (λ at. remove_at (map.get s.held.nodes at.1) at.0 e.1 at.1)
      (λ at there n. at_node s.held.nodes (λ o g. remove_at o at.0 e.1 g) (λ g. refl)
      (λ node g m. remove_in_needs node.kind at.0 e.1 g node.sid m) at.1
      (there_leads s.held.nodes at.1 there) n) h

  rmdir_needs : (s : Sight) (volume : ℕ) (e : Ending) → Needs f (accept_rmdir s volume e) → None_at s.held.nodes
  rmdir_needs s volume None h = root_needs s volume Loop (λ g e. cc) h
  rmdir_needs s volume (Some e) h = at_spot s volume e (λ at. rmdir_at s (map.get s.held.nodes at.1) at.0 e.1 at.1)
      (λ at there n. at_node s.held.nodes (λ o g. rmdir_at s o at.0 e.1 g) (λ g. refl)
      (λ node g m. rmdir_in_needs s node.kind at.0 e.1 g node.sid m) at.1
      (there_leads s.held.nodes at.1 there) n) h

  -- what is asked where a path leads
  at_end : (s : Sight) (volume : ℕ) (path : List Name) (see : Option Node → Fid → Accepted)
      → ((g : Fid) → see None g ≡ Err (Need g)) → ((node : Node) (g : Fid) → Needs f (see (Some node) g) → ⊥)
      → Needs f (then_find (resolve s.held.nodes (root_of volume) path) (λ fid. see (map.get s.held.nodes fid) fid))
      → None_at s.held.nodes
  at_end s volume path see none some h = ⊎_elim
      (λ (a : Needs f (resolve s.held.nodes (root_of volume) path)). resolve_needs s.held.nodes (root_of volume) path
      (root_leads s.held.nodes volume) a)
      (λ (a : (fid : Fid) × (resolve s.held.nodes (root_of volume) path ≡ Ok fid) × Needs f
      (see (map.get s.held.nodes fid) fid)). at_node s.held.nodes see none some a.0
      (there_leads s.held.nodes a.0 (resolve_has s.held.nodes (root_of volume) path a.0 a.1)) a.2)
      (then_needs f (resolve s.held.nodes (root_of volume) path) (λ fid. see (map.get s.held.nodes fid) fid) h)

  accept_needs : (s : Sight) (volume : ℕ) (ask : Asked) → Needs f (accept s volume ask) → None_at s.held.nodes
  unfolding accept
  accept_needs s volume (Create path mode owner) h =
      creation_needs s volume (ending path) (λ dir name fid. CreateOp dir name fid mode owner) h
  accept_needs s volume (Mkdir path mode owner) h =
      creation_needs s volume (ending path) (λ dir name fid. MkdirOp dir name fid mode owner) h
  accept_needs s volume (Symlink path target) h =
      creation_needs s volume (ending path) (λ dir name fid. SymlinkOp dir name fid target 511 0) h
  accept_needs s volume (Store path content) h =
      at_end s volume path (λ o g. store_at o g content) (λ g. refl)
      (λ node g m. store_in_needs node.kind g node.sid content m) h
  accept_needs s volume (Setattr path attrs) h =
      at_end s volume path (λ o g. setattr_at o g attrs) (λ g. refl)
      (λ node g m. ok_needs f (SetattrOp g node.sid attrs) m) h
  accept_needs s volume (Remove path) h = remove_needs s volume (ending path) h
  accept_needs s volume (Rmdir path) h = rmdir_needs s volume (ending path) h
  accept_needs s volume (Rename from to) h = rename_needs s volume (ending from) (ending to) h

pub needed_objects_are_missing : NeededObjectsAreMissing
needed_objects_are_missing s volume ask fid h = (accept_needs fid s volume ask h).0

pub needed_objects_are_led_to : NeededObjectsAreLedTo
needed_objects_are_led_to s volume ask fid h = (accept_needs fid s volume ask h).1
