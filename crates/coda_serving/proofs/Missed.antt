-- What acceptance misses, the walk of the ask misses.
use Rattle.std.proofs.Common.{◌≡◌, ℕ, ◌||◌, Bool, true, false, cond, List, [], ◌∷◌, ◌++◌, Option, Some, None, is_some, Result, Ok, Err, refl, sym, ap, ◌∙◌, subst, inl, inr}
use Rattle.std.specs.FinMap as map
use Rattle.coda_fid.specs.Fid.{root_of, same_fid}
use Rattle.coda_fid.specs.declared.fid.Fid.{Fid}
use Rattle.coda_fid.specs.declared.fid.Sid.{Sid}
use Rattle.coda_fid.specs.declared.op.Attrs.{Attrs}
use Rattle.coda_fid.specs.declared.op.Op.{Op}
use Rattle.coda_fid.specs.declared.op.Op.TheVariants.{Rename as RenameOp}
use Rattle.coda_tree.specs.Bindings.{Name}
use Rattle.coda_tree.specs.Volume.{Nodes}
use Rattle.coda_tree.specs.declared.node.Node.{Node}
use Rattle.coda_tree.specs.declared.node.NodeKind.{NodeKind}
use Rattle.coda_tree.specs.declared.node.NodeKind.TheVariants.{File, Link, Dir}
use Rattle.coda_venus.specs.Accepting.{Accepted, Sight, next_fid, is_used_up, unless_used, new_at, new_in, new_under, new_place, at_root, accept_creation, store_in, store_at, setattr_at, remove_in, remove_at, rmdir_of, rmdir_in, rmdir_at, spot, held_bound, bound_in, bound_at, place, is_dir_at, with_version, replaced_by, move_to, rename_to, rename_root, accept_rename, accept_remove, accept_rmdir, accept}
use Rattle.coda_venus.specs.Ask.{Asked, Create, Mkdir, Symlink, Store, Setattr, Remove, Rmdir, Rename, Ending, ending, front_of}
use Rattle.coda_venus.specs.Held.{is_below}
use Rattle.coda_venus.specs.Looking.{then_find, held, found, step_in, step_from, resolve}
use Rattle.coda_venus.specs.declared.refused.Refused.{Refused}
use Rattle.coda_venus.specs.declared.refused.Refused.TheVariants.{Need, JournalFull, Exists, Loop, IsDir}
use Rattle.coda_serving.proofs.Needed.{walk}
use Rattle.coda_serving.proofs.Walks.{Misses, first_or_then, misses_then, seen_misses, comes_then, err_is, resolve_push, ended, not_ended, held_is, resolve_has}

-- ---- spots and places

-- a path leads to the object of its spot
leads_to_spot : (m : Nodes) (volume : ℕ) (e : List Name × Name) → resolve m (root_of volume) (e.0 ++ e.1 ∷ []) ≡ then_find (spot m volume e) (λ at. Ok at.1)
leads_to_spot m volume e = resolve_push m (root_of volume) e.0 e.1 ∙ by (resolve m (root_of volume) e.0)
  where
    last : (dir : Fid) (r : Result Fid Refused) → r ≡ then_find (then_find r (λ there. Ok (dir, there))) (λ (at : Fid × Fid). Ok at.1)
    last dir (Ok there) = refl
    last dir (Err why) = refl

    inner : (dir : Fid) (r : Result Fid Refused) → then_find r (λ fid. held (map.get m fid) fid) ≡ then_find (then_find r (λ fid. then_find (held (map.get m fid) fid) (λ there. Ok (dir, there)))) (λ (at : Fid × Fid). Ok at.1)
    inner dir (Ok fid) = last dir (held (map.get m fid) fid)
    inner dir (Err why) = refl

    by : (r : Result Fid Refused) → then_find r (λ dir. then_find (step_from (map.get m dir) dir e.1) (λ fid. held (map.get m fid) fid))
        ≡ then_find (then_find r (λ dir. then_find (step_from (map.get m dir) dir e.1) (λ fid. then_find (held (map.get m fid) fid) (λ there. Ok (dir, there))))) (λ (at : Fid × Fid). Ok at.1)
    by (Ok dir) = inner dir (step_from (map.get m dir) dir e.1)
    by (Err why) = refl

-- what a spot misses, its path misses
spot_misses : (m : Nodes) (volume : ℕ) (e : List Name × Name) (gone : Fid) → Misses (spot m volume e) gone → Misses (resolve m (root_of volume) (e.0 ++ e.1 ∷ [])) gone
spot_misses m volume e gone n = leads_to_spot m volume e ∙ misses_then (spot m volume e) (λ (at : Fid × Fid). Ok at.1) gone n

-- the object of a spot is held
spot_leads : (m : Nodes) (volume : ℕ) (e : List Name × Name) (at : Fid × Fid) → spot m volume e ≡ Ok at → resolve m (root_of volume) (e.0 ++ e.1 ∷ []) ≡ Ok at.1
spot_leads m volume e at is = leads_to_spot m volume e ∙ comes_then (spot m volume e) (λ (at : Fid × Fid). Ok at.1) at is

module _ (m : Nodes) (volume : ℕ) (e : List Name × Name) (gone : Fid) where
  bound_misses : (o : Option Fid) → Misses (held_bound m o) gone → Misses (then_find (found o) (λ fid. held (map.get m fid) fid)) gone
  bound_misses None x = cc
  bound_misses (Some fid) x = seen_misses (held (map.get m fid) fid) (λ there. Some there) gone x

  in_misses : (kind : NodeKind) → Misses (bound_in m kind e.1) gone → Misses (then_find (step_in kind e.1) (λ fid. held (map.get m fid) fid)) gone
  in_misses (File content) x = cc
  in_misses (Link target) x = cc
  in_misses (Dir entries) x = bound_misses (map.get entries e.1) x

  at_misses : (o : Option Node) (dir : Fid) → Misses (bound_at m o dir e.1) gone → Misses (then_find (step_from o dir e.1) (λ fid. held (map.get m fid) fid)) gone
  at_misses None dir x = cc
  at_misses (Some node) dir x = in_misses node.kind x

  -- what a place misses, its path misses
  place_misses : Misses (place m volume e) gone → Misses (resolve m (root_of volume) (e.0 ++ e.1 ∷ [])) gone
  place_misses n = resolve_push m (root_of volume) e.0 e.1 ∙ elim (first_or_then (resolve m (root_of volume) e.0) (λ dir. then_find (bound_at m (map.get m dir) dir e.1) (λ b. Ok (dir, b))) gone n) [
    | inl first ↦ misses_then (resolve m (root_of volume) e.0) (λ dir. then_find (step_from (map.get m dir) dir e.1) (λ fid. held (map.get m fid) fid)) gone first
    | inr then_ ↦
        comes_then (resolve m (root_of volume) e.0) (λ dir. then_find (step_from (map.get m dir) dir e.1) (λ fid. held (map.get m fid) fid)) then_.found then_.is
        ∙ at_misses (map.get m then_.found) then_.found (seen_misses (bound_at m (map.get m then_.found) then_.found e.1) (λ b. (then_.found, b)) gone then_.misses)
  ]

-- what stands at a new name is held
abbrev IsThere : Nodes → Option Fid → Type 0
IsThere m None = Unit {0}
IsThere m (Some old) = (node : Node) × (map.get m old ≡ Some node)

module _ (m : Nodes) (name : Name) where
  ok_is : {A : Type 0} (x y : A) → (let ok : A → Result A Refused = λ z. Ok z in ok x ≡ ok y) → x ≡ y
  ok_is x y e = cc

  held_there : (old : Fid) (r : Result Fid Refused) (b : Option Fid) → held (map.get m old) old ≡ r → then_find r (λ there. Ok (Some there)) ≡ Ok b → IsThere m b
  held_there old (Err why) b r e = cc
  held_there old (Ok there) b r e = (
      let is = held_is (map.get m old) old there r in
      let same : Some there ≡ b = ok_is (Some there) b e in
      subst (IsThere m) same (is.0, ap (map.get m) (sym is.2) ∙ is.1))

  bound_there : (o b : Option Fid) → held_bound m o ≡ Ok b → IsThere m b
  bound_there None b e = subst (IsThere m) (ok_is None b e) tt
  bound_there (Some old) b e = held_there old (held (map.get m old) old) b refl e

  in_there : (kind : NodeKind) (b : Option Fid) → bound_in m kind name ≡ Ok b → IsThere m b
  in_there (File content) b e = cc
  in_there (Link target) b e = cc
  in_there (Dir entries) b e = bound_there (map.get entries name) b e

  at_there : (o : Option Node) (dir : Fid) (b : Option Fid) → bound_at m o dir name ≡ Ok b → IsThere m b
  at_there None dir b e = cc
  at_there (Some node) dir b e = in_there node.kind b e

-- what stands at a place is held
place_there : (m : Nodes) (volume : ℕ) (e : List Name × Name) (p : Fid × Option Fid) → place m volume e ≡ Ok p → IsThere m p.1
place_there m volume e p is = by (resolve m (root_of volume) e.0) is
  where
    last : (dir : Fid) (r : Result (Option Fid) Refused) → bound_at m (map.get m dir) dir e.1 ≡ r → then_find r (λ b. Ok (dir, b)) ≡ Ok p → IsThere m p.1
    last dir (Err why) r x = cc
    last dir (Ok b) r x = (let same : b ≡ p.1 = ap (λ (q : Fid × Option Fid). q.1) (ok_is m e.1 (dir, b) p x) in subst (IsThere m) same (at_there m e.1 (map.get m dir) dir b r))

    by : (r : Result Fid Refused) → then_find r (λ dir. then_find (bound_at m (map.get m dir) dir e.1) (λ b. Ok (dir, b))) ≡ Ok p → IsThere m p.1
    by (Err why) x = cc
    by (Ok dir) x = last dir (bound_at m (map.get m dir) dir e.1) refl x

-- ---- each ask

module _ (s : Sight) (volume : ℕ) (gone : Fid) where
  abbrev top : Fid
  top = root_of volume

  root_misses : (path : List Name) (refusal : Refused) → path ≡ [] → (Misses {A = Fid} (Err refusal) gone → ⊥) → Misses (at_root s volume refusal) gone → Misses (resolve s.held.nodes top path) gone
  root_misses path refusal nil other n = elim (first_or_then (held (map.get s.held.nodes top) top) (λ _. Err refusal) gone n) [
    | inl first ↦ ap (resolve s.held.nodes top) nil ∙ first
    | inr then_ ↦ absurd (other (ap Err (err_is {A = Op} refusal (Need gone) then_.misses)))
  ]

  unless_never : (used : Bool) (fid : Fid) → Misses (unless_used used fid) gone → ⊥
  unless_never true fid n = cc
  unless_never false fid n = cc

  new_never : (full : Bool) → Misses (cond full (Err JournalFull) (unless_used (is_some (map.get s.held.nodes (next_fid s volume))) (next_fid s volume))) gone → ⊥
  new_never true n = cc
  new_never false n = unless_never (is_some (map.get s.held.nodes (next_fid s volume))) (next_fid s volume) n

  new_at_never : (o : Option Fid) → Misses (new_at s volume o) gone → ⊥
  new_at_never None n = new_never (is_used_up s) n
  new_at_never (Some bound) n = cc

  new_in_never : (kind : NodeKind) (name : Name) → Misses (new_in s volume kind name) gone → ⊥
  new_in_never (File content) name n = cc
  new_in_never (Link target) name n = cc
  new_in_never (Dir entries) name n = new_at_never (map.get entries name) n

  -- what a held object is asked misses nothing
  new_under_never : (o : Option Node) (node : Node) (dir : Fid) (name : Name) → o ≡ Some node → Misses (new_under s volume o dir name) gone → ⊥
  new_under_never o node dir name is n = new_in_never node.kind name (subst (λ o. Misses (new_under s volume o dir name) gone) is n)

  store_in_never : (kind : NodeKind) (fid : Fid) (pre : Sid) (content : List ℕ) → Misses (store_in kind fid pre content) gone → ⊥
  store_in_never (File old) fid pre content n = cc
  store_in_never (Link target) fid pre content n = cc
  store_in_never (Dir entries) fid pre content n = cc

  store_never : (o : Option Node) (node : Node) (fid : Fid) (content : List ℕ) → o ≡ Some node → Misses (store_at o fid content) gone → ⊥
  store_never o node fid content is n = store_in_never node.kind fid node.sid content (subst (λ o. Misses (store_at o fid content) gone) is n)

  setattr_never : (o : Option Node) (node : Node) (fid : Fid) (attrs : Attrs) → o ≡ Some node → Misses (setattr_at o fid attrs) gone → ⊥
  setattr_never o node fid attrs is n = (let no : Misses (setattr_at (Some node) fid attrs) gone = subst (λ o. Misses (setattr_at o fid attrs) gone) is n in cc)

  remove_in_never : (kind : NodeKind) (dir : Fid) (name : Name) (fid : Fid) (pre : Sid) → Misses (remove_in kind dir name fid pre) gone → ⊥
  remove_in_never (File content) dir name fid pre n = cc
  remove_in_never (Link target) dir name fid pre n = cc
  remove_in_never (Dir entries) dir name fid pre n = cc

  remove_never : (o : Option Node) (node : Node) (dir : Fid) (name : Name) (fid : Fid) → o ≡ Some node → Misses (remove_at o dir name fid) gone → ⊥
  remove_never o node dir name fid is n = remove_in_never node.kind dir name fid node.sid (subst (λ o. Misses (remove_at o dir name fid) gone) is n)

  rmdir_of_never : (may : Bool) (dir : Fid) (name : Name) (fid : Fid) (pre : Sid) → Misses (rmdir_of may dir name fid pre) gone → ⊥
  rmdir_of_never true dir name fid pre n = cc
  rmdir_of_never false dir name fid pre n = cc

  rmdir_in_never : (kind : NodeKind) (dir : Fid) (name : Name) (fid : Fid) (pre : Sid) → Misses (rmdir_in s kind dir name fid pre) gone → ⊥
  rmdir_in_never (File content) dir name fid pre n = cc
  rmdir_in_never (Link target) dir name fid pre n = cc
  rmdir_in_never (Dir entries) dir name fid pre n = rmdir_of_never _ dir name fid pre n

  rmdir_never : (o : Option Node) (node : Node) (dir : Fid) (name : Name) (fid : Fid) → o ≡ Some node → Misses (rmdir_at s o dir name fid) gone → ⊥
  rmdir_never o node dir name fid is n = rmdir_in_never node.kind dir name fid node.sid (subst (λ o. Misses (rmdir_at s o dir name fid) gone) is n)

  -- a creation
  creation_misses : (e : Ending) (make : Fid → Name → Fid → Op) → Misses (accept_creation s volume e make) gone → Misses (resolve s.held.nodes top (front_of e)) gone
  creation_misses None make n = root_misses [] Exists refl (λ x. cc) n
  creation_misses (Some e) make n =
      elim (first_or_then (resolve s.held.nodes top e.0) (λ dir. then_find (new_under s volume (map.get s.held.nodes dir) dir e.1) (λ fid. Ok (dir, fid))) gone (seen_misses (new_place s volume e) (λ p. make p.0 e.1 p.1) gone n)) [
        | inl first ↦ first
        | inr then_ ↦ (
            let dir = then_.found in
            let there = resolve_has s.held.nodes top e.0 dir then_.is in
            absurd (new_under_never (map.get s.held.nodes dir) there.0 dir e.1 there.1 (seen_misses (new_under s volume (map.get s.held.nodes dir) dir e.1) (λ fid. (dir, fid)) gone then_.misses)))
      ]

  -- a path that ends so misses what its spot does
  at_spot : (path : List Name) (e : List Name × Name) (next : (Fid × Fid) → Accepted) → ending path ≡ Some e
      → ((at : Fid × Fid) (node : Node) → map.get s.held.nodes at.1 ≡ Some node → Misses (next at) gone → ⊥) → Misses (then_find (spot s.held.nodes volume e) next) gone → Misses (resolve s.held.nodes top path) gone
  at_spot path e next is never n = elim (first_or_then (spot s.held.nodes volume e) next gone n) [
    | inl first ↦ ap (resolve s.held.nodes top) (ended path e is) ∙ spot_misses s.held.nodes volume e gone first
    | inr then_ ↦ (
        let there = resolve_has s.held.nodes top (e.0 ++ e.1 ∷ []) then_.found.1 (spot_leads s.held.nodes volume e then_.found then_.is) in
        absurd (never then_.found there.0 there.1 then_.misses))
  ]

  removal_misses : (path : List Name) (e : Ending) → ending path ≡ e → Misses (accept_remove s volume e) gone → Misses (resolve s.held.nodes top path) gone
  removal_misses path None is n = root_misses path IsDir (not_ended path is) (λ x. cc) n
  removal_misses path (Some e) is n = at_spot path e (λ at. remove_at (map.get s.held.nodes at.1) at.0 e.1 at.1) is (λ at node there x. remove_never (map.get s.held.nodes at.1) node at.0 e.1 at.1 there x) n

  rmdir_misses : (path : List Name) (e : Ending) → ending path ≡ e → Misses (accept_rmdir s volume e) gone → Misses (resolve s.held.nodes top path) gone
  rmdir_misses path None is n = root_misses path Loop (not_ended path is) (λ x. cc) n
  rmdir_misses path (Some e) is n = at_spot path e (λ at. rmdir_at s (map.get s.held.nodes at.1) at.0 e.1 at.1) is (λ at node there x. rmdir_never (map.get s.held.nodes at.1) node at.0 e.1 at.1 there x) n

  -- what is replaced is held
  version_never : (o : Option Node) (node : Node) (old : Fid) → o ≡ Some node → Misses (with_version o old) gone → ⊥
  version_never o node old is n = (let no : Misses (with_version (Some node) old) gone = subst (λ o. Misses (with_version o old) gone) is n in cc)

  over_never : (taken : Bool) (node : Node) (old : Fid) → map.get s.held.nodes old ≡ Some node → Misses (cond taken (Err Exists) (with_version (map.get s.held.nodes old) old)) gone → ⊥
  over_never true node old is n = cc
  over_never false node old is n = version_never (map.get s.held.nodes old) node old is n

  replaced_never : (fid : Fid) (b : Option Fid) → IsThere s.held.nodes b → Misses (replaced_by s.held.nodes fid b) gone → ⊥
  replaced_never fid None there n = cc
  replaced_never fid (Some old) there n = over_never (same_fid old fid || (is_dir_at (map.get s.held.nodes fid) || is_dir_at (map.get s.held.nodes old))) there.0 old there.1 n

  move_never : (below : Bool) (from_dir : Fid) (from : Name) (fid : Fid) (to : Name) (p : Fid × Option Fid) → IsThere s.held.nodes p.1
      → Misses (let r : Accepted = cond below (Err Loop) (then_find (replaced_by s.held.nodes fid p.1) (λ over. Ok (RenameOp from_dir from p.0 to fid over))) in r) gone → ⊥
  move_never true from_dir from fid to p there n = cc
  move_never false from_dir from fid to p there n = replaced_never fid p.1 there (seen_misses (replaced_by s.held.nodes fid p.1) (λ over. RenameOp from_dir from p.0 to fid over) gone n)

  -- the new path of a rename
  to_place : (path : List Name) (e : List Name × Name) (next : (Fid × Option Fid) → Accepted) → ending path ≡ Some e → ((p : Fid × Option Fid) → IsThere s.held.nodes p.1 → Misses (next p) gone → ⊥)
      → Misses (then_find (place s.held.nodes volume e) next) gone → Misses (resolve s.held.nodes top path) gone
  to_place path e next is never n = elim (first_or_then (place s.held.nodes volume e) next gone n) [
    | inl first ↦ ap (resolve s.held.nodes top) (ended path e is) ∙ place_misses s.held.nodes volume e gone first
    | inr then_ ↦ absurd (never then_.found (place_there s.held.nodes volume e then_.found then_.is) then_.misses)
  ]

  to_misses : (from_dir : Fid) (from : Name) (fid : Fid) (path : List Name) (e : Ending) → ending path ≡ e → Misses (rename_to s volume from_dir from fid e) gone → Misses (resolve s.held.nodes top path) gone
  to_misses from_dir from fid path None is n = root_misses path Exists (not_ended path is) (λ x. cc) n
  to_misses from_dir from fid path (Some e) is n =
      to_place path e (λ p. move_to s.held from_dir from fid e.1 p) is (λ p there x. move_never (is_below s.held.parents p.0 fid) from_dir from fid e.1 p there x) n

  root_to : (path : List Name) (e : Ending) → ending path ≡ e → Misses (rename_root s volume e) gone → Misses (resolve s.held.nodes top path) gone
  root_to path None is n = root_misses path Loop (not_ended path is) (λ x. cc) n
  root_to path (Some e) is n = to_place path e (λ p. Err Loop) is (λ p there x. cc) n

  renaming : (from to : List Name) (e : Ending) → ending from ≡ e → Misses (accept_rename s volume e (ending to)) gone → Misses (walk s.held.nodes volume (Rename from to)) gone
  renaming from to None is n = elim (first_or_then (held (map.get s.held.nodes top) top) (λ _. rename_root s volume (ending to)) gone n) [
    | inl first ↦ misses_then (resolve s.held.nodes top from) (λ _. resolve s.held.nodes top to) gone (ap (resolve s.held.nodes top) (not_ended from is) ∙ first)
    | inr then_ ↦ comes_then (resolve s.held.nodes top from) (λ _. resolve s.held.nodes top to) then_.found (ap (resolve s.held.nodes top) (not_ended from is) ∙ then_.is) ∙ root_to to (ending to) refl then_.misses
  ]
  renaming from to (Some e) is n = elim (first_or_then (spot s.held.nodes volume e) (λ at. rename_to s volume at.0 e.1 at.1 (ending to)) gone n) [
    | inl first ↦ misses_then (resolve s.held.nodes top from) (λ _. resolve s.held.nodes top to) gone (ap (resolve s.held.nodes top) (ended from e is) ∙ spot_misses s.held.nodes volume e gone first)
    | inr then_ ↦
        comes_then (resolve s.held.nodes top from) (λ _. resolve s.held.nodes top to) then_.found.1 (ap (resolve s.held.nodes top) (ended from e is) ∙ spot_leads s.held.nodes volume e then_.found then_.is)
        ∙ to_misses then_.found.0 e.1 then_.found.1 to (ending to) refl then_.misses
  ]

  -- what acceptance misses, the walk misses
  pub walk_misses : (ask : Asked) → Misses (accept s volume ask) gone → Misses (walk s.held.nodes volume ask) gone
  unfolding accept
  walk_misses (Create path mode owner) n = creation_misses (ending path) _ n
  walk_misses (Mkdir path mode owner) n = creation_misses (ending path) _ n
  walk_misses (Symlink path target) n = creation_misses (ending path) _ n
  walk_misses (Store path content) n = elim (first_or_then (resolve s.held.nodes top path) (λ fid. store_at (map.get s.held.nodes fid) fid content) gone n) [
    | inl first ↦ first
    | inr then_ ↦ (let there = resolve_has s.held.nodes top path then_.found then_.is in absurd (store_never (map.get s.held.nodes then_.found) there.0 then_.found content there.1 then_.misses))
  ]
  walk_misses (Setattr path attrs) n = elim (first_or_then (resolve s.held.nodes top path) (λ fid. setattr_at (map.get s.held.nodes fid) fid attrs) gone n) [
    | inl first ↦ first
    | inr then_ ↦ (let there = resolve_has s.held.nodes top path then_.found then_.is in absurd (setattr_never (map.get s.held.nodes then_.found) there.0 then_.found attrs there.1 then_.misses))
  ]
  walk_misses (Remove path) n = removal_misses path (ending path) refl n
  walk_misses (Rmdir path) n = rmdir_misses path (ending path) refl n
  walk_misses (Rename from to) n = renaming from to (ending from) refl n
