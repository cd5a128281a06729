-- What is accepted over some nodes is accepted over any that have what was looked up, and so over the whole.
use Rattle.std.proofs.Common.{◌≡◌, ℕ, ◌+◌, ◌==◌, ◌||◌, ◌&&◌, not, Bool, true, false, cond, List, [], ◌∷◌, ◌++◌, Option}
use Rattle.std.proofs.Common.{Some, None, is_some, Result, Ok, Err, refl, sym, ap, ◌∙◌, subst}
use Rattle.std.specs.Prelude.{nat_le}
use Rattle.std.specs.FinMap as map
use Rattle.std.proofs.lemmas.Bool.{or_left, or_right, false≢true}
use Rattle.coda_fid.specs.Fid.{root_of, same_fid}
use Rattle.coda_fid.specs.declared.fid.Fid.{Fid}
use Rattle.coda_fid.specs.declared.fid.Sid.{Sid}
use Rattle.coda_fid.specs.declared.op.Over.{Over}
use Rattle.coda_fid.specs.declared.op.Op.{Op}
use Rattle.coda_fid.specs.declared.op.Op.TheVariants.{Create as CreateOp, Mkdir as MkdirOp, Symlink as SymlinkOp}
use Rattle.coda_fid.specs.declared.op.Op.TheVariants.{Rename as RenameOp}
use Rattle.coda_tree.specs.declared.node.Node.{Node}
use Rattle.coda_tree.specs.declared.node.NodeKind.{NodeKind}
use Rattle.coda_tree.specs.declared.node.NodeKind.TheVariants.{File, Link, Dir}
use Rattle.coda_tree.specs.Bindings.{Name}
use Rattle.coda_tree.specs.Volume.{Nodes, has}
use Rattle.coda_venus.specs.declared.refused.Refused.{Refused}
use Rattle.coda_venus.specs.declared.refused.Refused.TheVariants.{Exists, IsDir, Loop, JournalFull}
use Rattle.coda_venus.specs.Ask.{Asked, Create, Mkdir, Symlink, Store, Setattr, Remove, Rmdir, Rename, Ending, ending}
use Rattle.coda_venus.specs.Ask.{front_of}
use Rattle.coda_venus.specs.Held.{is_below}
use Rattle.coda_venus.specs.Looking.{then_find, held, found, step_in, step_from, resolve}
use Rattle.coda_venus.specs.Accepting.{Accepted, Sight, next_fid, is_used_up, unless_used, new_fid, new_at, new_in}
use Rattle.coda_venus.specs.Accepting.{new_under, new_place, accept_creation, store_at, setattr_at, remove_at}
use Rattle.coda_venus.specs.Accepting.{rmdir_of, rmdir_in, rmdir_at, spot, held_bound, bound_in, bound_at, place}
use Rattle.coda_venus.specs.Accepting.{is_dir_at, with_version, replaced_by, move_to, rename_to, rename_root}
use Rattle.coda_venus.specs.Accepting.{accept_rename, accept_remove, accept_rmdir, accept}
use Rattle.coda_walk.specs.Going.{is_listed}
use Rattle.coda_venus.proofs.Accepted.{found_then, held_is, not_at_root, new_fid_is, resolve_has, root_stays}
use Rattle.coda_venus.proofs.Accepted.{unless_is}
use Rattle.coda_venus.specs.Serving.{look_on, looked_up, looked_up_to_rename, looked_up_for}
use Rattle.coda_rounds.specs.Sights.{HasLookedUp, PartsAcceptAsTheWhole, WhatWasLookedUpSuffices}
use Rattle.coda_rounds.proofs.LookedUp.{IsWithin, head_within, tail_within, end_listed, front_within, last_listed}
use Rattle.coda_rounds.proofs.LookedUp.{resolve_more, IsSpot, spot_parts, IsPlace, place_parts, place_listed, path_is}
use Rattle.coda_rounds.proofs.Replies.{listed_behind}

then_ok : {A B : Type 0} (r : Result A Refused) (next : A → Result B Refused) (y : A) (x : B) → r ≡ Ok y
    → next y ≡ Ok x → then_find r next ≡ Ok x
then_ok r next y x e h = ap (λ z. then_find z next) e ∙ h

module _ (volume : ℕ) (looked : List Fid) (s t : Sight) (part : HasLookedUp volume looked s t) where
  abbrev S : Nodes
  S = s.held.nodes

  abbrev T : Nodes
  T = t.held.nodes

  -- what is asked of a node that is there
  node_up : {A : Type 0} (see : Option Node → Result A Refused) (x : A) (at : Fid) → is_listed looked at ≡ true
      → (see None ≡ Ok x → ⊥) → see (map.get S at) ≡ Ok x → see (map.get T at) ≡ Ok x
  node_up {A} see x at on none h = go (map.get S at) refl h
    where
      go : (o : Option Node) → map.get S at ≡ o → see o ≡ Ok x → see (map.get T at) ≡ Ok x
      go None e h = absurd (none h)
      go (Some node) e h = ap see (part.nodes at node on e) ∙ h

  resolve_up : (at : Fid) (names : List Name) (fid : Fid) → IsWithin (looked_up S at names) looked
      → resolve S at names ≡ Ok fid → resolve T at names ≡ Ok fid
  resolve_up at [] fid within h = node_up (λ o. held o at) fid at (head_within looked at [] within) (λ e. cc) h
  resolve_up at (name ∷ names) fid within h =
      let a = found_then (step_from (map.get S at) at name) (λ next. resolve S next names) fid h in
      then_ok (step_from (map.get T at) at name) (λ next. resolve T next names) a.0 fid
      (node_up (λ o. step_from o at name) a.0 at (head_within looked at _ within) (λ e. cc) a.1)
      (resolve_up a.0 names fid (tail_within S looked at a.0 name names a.1 within) a.2)

  -- ---- creations

  new_fid_up : (fid : Fid) → new_fid s volume ≡ Ok fid → new_fid t volume ≡ Ok fid
  new_fid_up fid h =
      let is = new_fid_is s volume fid h in
      let next : next_fid s volume ≡ next_fid t volume = λ i. record { volume = volume; vnode = part.number i; uniq = part.creations i + 1 } in
      let here : new_fid s volume ≡ cond (is_used_up s) (Err JournalFull) (unless_used false (next_fid s volume)) = ap (λ b. cond (is_used_up s) (Err JournalFull) (unless_used b (next_fid s volume))) (ap is_some (ap (map.get S) (sym is.2) ∙ is.1)) in
      let there : new_fid t volume ≡ cond (is_used_up t) (Err JournalFull) (unless_used false (next_fid t volume)) = ap (λ b. cond (is_used_up t) (Err JournalFull) (unless_used b (next_fid t volume))) (ap is_some (part.fresh)) in
      there ∙ sym (λ i. cond (nat_le 4294967295 (part.creations i)) (Err JournalFull) (unless_used false (next i)))
      ∙ sym here ∙ h

  new_at_up : (o : Option Fid) (fid : Fid) → new_at s volume o ≡ Ok fid → new_at t volume o ≡ Ok fid
  new_at_up None fid h = new_fid_up fid h
  new_at_up (Some bound) fid h = absurd (cc)

  new_in_up : (kind : NodeKind) (name : Name) (fid : Fid) → new_in s volume kind name ≡ Ok fid
      → new_in t volume kind name ≡ Ok fid
  new_in_up (File content) name fid h = absurd (cc)
  new_in_up (Link target) name fid h = absurd (cc)
  new_in_up (Dir entries) name fid h = new_at_up (map.get entries name) fid h

  new_under_up : (dir : Fid) (name : Name) (fid : Fid) → is_listed looked dir ≡ true
      → new_under s volume (map.get S dir) dir name ≡ Ok fid → new_under t volume (map.get T dir) dir name ≡ Ok fid
  new_under_up dir name fid on h = go (map.get S dir) refl h
    where
      go : (o : Option Node) → map.get S dir ≡ o → new_under s volume o dir name ≡ Ok fid
          → new_under t volume (map.get T dir) dir name ≡ Ok fid
      go None e h = absurd (cc)
      go (Some node) e h =
          ap (λ o. new_under t volume o dir name) (part.nodes dir node on e) ∙ new_in_up node.kind name fid h

  creation_up : (e : Ending) (make : Fid → Name → Fid → Op) (op : Op)
      → IsWithin (looked_up S (root_of volume) (front_of e)) looked → accept_creation s volume e make ≡ Ok op
      → accept_creation t volume e make ≡ Ok op
  creation_up None make op within h = absurd (not_at_root s volume Exists op h)
  creation_up (Some e) make op within h =
      let Pair : Type 0 = Fid × Fid in
      let ok : Pair → Result Pair Refused = λ z. Ok z in
      let done : Pair → Accepted = λ p. Ok (make p.0 e.1 p.1) in
      let a = found_then (new_place s volume e) done op h in
      let b = found_then (resolve S (root_of volume) e.0) (λ dir. then_find (new_under s volume (map.get S dir) dir e.1) (λ fid. ok (dir, fid))) a.0 a.1 in
      let c = found_then (new_under s volume (map.get S b.0) b.0 e.1) (λ fid. ok (b.0, fid)) a.0 b.2 in
      then_ok (new_place t volume e) done a.0 op
      (then_ok (resolve T (root_of volume) e.0)
      (λ dir. then_find (new_under t volume (map.get T dir) dir e.1) (λ fid. ok (dir, fid))) b.0 a.0
      (resolve_up (root_of volume) e.0 b.0 within b.1)
      (then_ok (new_under t volume (map.get T b.0) b.0 e.1) (λ fid. ok (b.0, fid)) c.0 a.0
      (new_under_up b.0 e.1 c.0 (within b.0 (end_listed S (root_of volume) e.0 b.0 b.1)) c.1) c.2)) a.2

  -- ---- operations on an object

  abbrev along : (List Name × Name) → List Fid
  along e = looked_up S (root_of volume) (e.0 ++ e.1 ∷ [])

  -- what is looked up for a spot has its directory and its object
  spot_dir : (e : List Name × Name) (at : Fid × Fid) → IsWithin (along e) looked → IsSpot S volume e at
      → IsWithin (looked_up S (root_of volume) e.0) looked
  spot_dir e at within is g on = within g (front_within S (root_of volume) e.0 e.1 at.0 is.front g on)

  spot_object : (e : List Name × Name) (at : Fid × Fid) → IsWithin (along e) looked → IsSpot S volume e at
      → is_listed looked at.1 ≡ true
  spot_object e at within is = within at.1 (last_listed S (root_of volume) e.0 e.1 at.0 at.1 is.front is.step)

  spot_up : (e : List Name × Name) (at : Fid × Fid) → IsWithin (along e) looked → spot S volume e ≡ Ok at
      → spot T volume e ≡ Ok at
  spot_up e at within h =
      let Pair : Type 0 = Fid × Fid in
      let ok : Pair → Result Pair Refused = λ z. Ok z in
      let is = spot_parts S volume e at h in
      let front = spot_dir e at within is in
      then_ok (resolve T (root_of volume) e.0)
      (λ dir. then_find (step_from (map.get T dir) dir e.1)
      (λ fid. then_find (held (map.get T fid) fid) (λ there. ok (dir, there)))) at.0 at
      (resolve_up (root_of volume) e.0 at.0 front is.front)
      (then_ok (step_from (map.get T at.0) at.0 e.1)
      (λ fid. then_find (held (map.get T fid) fid) (λ there. ok (at.0, there))) at.1 at
      (node_up (λ o. step_from o at.0 e.1) at.1 at.0
      (front at.0 (end_listed S (root_of volume) e.0 at.0 is.front)) (λ x. cc) is.step)
      (then_ok (held (map.get T at.1) at.1) (λ there. ok (at.0, there)) at.1 at
      (node_up (λ o. held o at.1) at.1 at.1 (spot_object e at within is) (λ x. cc) is.there) refl))

  -- where a path leads
  end_up : (path : List Name) (see : Option Node → Fid → Accepted) (op : Op)
      → IsWithin (looked_up S (root_of volume) path) looked → ((g : Fid) → see None g ≡ Ok op → ⊥) → then_find (resolve S (root_of volume) path) (λ fid. see (map.get S fid) fid) ≡ Ok op → then_find
      (resolve T (root_of volume) path) (λ fid. see (map.get T fid) fid) ≡ Ok op
  end_up path see op within none h =
      let a = found_then (resolve S (root_of volume) path) (λ fid. see (map.get S fid) fid) op h in
      then_ok (resolve T (root_of volume) path) (λ fid. see (map.get T fid) fid) a.0 op
      (resolve_up (root_of volume) path a.0 within a.1)
      (node_up (λ o. see o a.0) op a.0 (within a.0 (end_listed S (root_of volume) path a.0 a.1)) (none a.0) a.2)

  rmdir_in_up : (kind : NodeKind) (dir : Fid) (name : Name) (fid : Fid) (pre : Sid) (op : Op)
      → is_listed looked fid ≡ true → has S fid ≡ true → rmdir_in s kind dir name fid pre ≡ Ok op → rmdir_in t kind dir name fid pre ≡ Ok op
  rmdir_in_up (File content) dir name fid pre op on there h = absurd (cc)
  rmdir_in_up (Link target) dir name fid pre op on there h = absurd (cc)
  rmdir_in_up (Dir entries) dir name fid pre op on there h =
      ap (λ b. rmdir_of ((map.len entries == 0) && not b) dir name fid pre) (sym (part.dirty_below fid on there)) ∙ h

  rmdir_up : (dir : Fid) (name : Name) (fid : Fid) (op : Op) → is_listed looked fid ≡ true
      → rmdir_at s (map.get S fid) dir name fid ≡ Ok op → rmdir_at t (map.get T fid) dir name fid ≡ Ok op
  rmdir_up dir name fid op on h = go (map.get S fid) refl h
    where
      go : (o : Option Node) → map.get S fid ≡ o → rmdir_at s o dir name fid ≡ Ok op
          → rmdir_at t (map.get T fid) dir name fid ≡ Ok op
      go None e h = absurd (cc)
      go (Some node) e h =
          ap (λ o. rmdir_at t o dir name fid) (part.nodes fid node on e)
          ∙ rmdir_in_up node.kind dir name fid node.sid op on (ap is_some e) h

  -- ---- a rename

  bound_up : (o : Option Fid) (b : Option Fid) → ((f : Fid) → o ≡ Some f → is_listed looked f ≡ true)
      → held_bound S o ≡ Ok b → held_bound T o ≡ Ok b
  bound_up None b on h = h
  bound_up (Some fid) b on h =
      let ok : Fid → Result (Option Fid) Refused = λ there. Ok (Some there) in
      let a = found_then (held (map.get S fid) fid) ok b h in
      then_ok (held (map.get T fid) fid) ok a.0 b (node_up (λ o. held o fid) a.0 fid (on fid refl) (λ x. cc) a.1) a.2

  bound_in_up : (kind : NodeKind) (name : Name) (b : Option Fid)
      → ((f : Fid) → step_in kind name ≡ Ok f → is_listed looked f ≡ true) → bound_in S kind name ≡ Ok b
      → bound_in T kind name ≡ Ok b
  bound_in_up (File content) name b on h = absurd (cc)
  bound_in_up (Link target) name b on h = absurd (cc)
  bound_in_up (Dir entries) name b on h = bound_up (map.get entries name) b (λ f e. on f (ap found e)) h

  bound_at_up : (dir : Fid) (name : Name) (b : Option Fid) → is_listed looked dir ≡ true
      → ((f : Fid) → step_from (map.get S dir) dir name ≡ Ok f → is_listed looked f ≡ true)
      → bound_at S (map.get S dir) dir name ≡ Ok b → bound_at T (map.get T dir) dir name ≡ Ok b
  bound_at_up dir name b here on h = go (map.get S dir) refl h
    where
      go : (o : Option Node) → map.get S dir ≡ o → bound_at S o dir name ≡ Ok b
          → bound_at T (map.get T dir) dir name ≡ Ok b
      go None e h = absurd (cc)
      go (Some node) e h =
          ap (λ o. bound_at T o dir name) (part.nodes dir node here e)
          ∙ bound_in_up node.kind name b (λ f step. on f (ap (λ o. step_from o dir name) e ∙ step)) h

  place_dir : (e : List Name × Name) (p : Fid × Option Fid) → IsWithin (along e) looked → IsPlace S volume e p
      → IsWithin (looked_up S (root_of volume) e.0) looked
  place_dir e p within is g on = within g (front_within S (root_of volume) e.0 e.1 p.0 is.front g on)

  place_up : (e : List Name × Name) (p : Fid × Option Fid) → IsWithin (along e) looked → place S volume e ≡ Ok p
      → place T volume e ≡ Ok p
  place_up e p within h =
      let ok : Fid × Option Fid → Result (Fid × Option Fid) Refused = λ z. Ok z in
      let is = place_parts S volume e p h in
      let front = place_dir e p within is in
      then_ok (resolve T (root_of volume) e.0)
      (λ dir. then_find (bound_at T (map.get T dir) dir e.1) (λ bound. ok (dir, bound))) p.0 p
      (resolve_up (root_of volume) e.0 p.0 front is.front)
      (then_ok (bound_at T (map.get T p.0) p.0 e.1) (λ bound. ok (p.0, bound)) p.1 p
      (bound_at_up p.0 e.1 p.1 (front p.0 (end_listed S (root_of volume) e.0 p.0 is.front))
      (λ f step. within f (last_listed S (root_of volume) e.0 e.1 p.0 f is.front step)) is.bound) refl)

  old_listed : (e : List Name × Name) (p : Fid × Option Fid) → IsWithin (along e) looked → IsPlace S volume e p
      → (old : Fid) → p.1 ≡ Some old → is_listed looked old ≡ true
  old_listed e p within is old bound = within old (place_listed S volume e p is old bound)

  same_there : (f : Fid) → is_listed looked f ≡ true → has S f ≡ true → map.get T f ≡ map.get S f
  same_there f on h = go (map.get S f) refl h
    where
      go : (o : Option Node) → map.get S f ≡ o → is_some o ≡ true → map.get T f ≡ map.get S f
      go None e h = absurd (false≢true h)
      go (Some node) e h = part.nodes f node on e ∙ sym e

  version_some : (o : Option Node) (old : Fid) (over : Option Over) → with_version o old ≡ Ok over → is_some o ≡ true
  version_some None old over h = absurd (cc)
  version_some (Some node) old over h = refl

  replaced_up : (fid : Fid) (o : Option Fid) (over : Option Over) → is_listed looked fid ≡ true
      → ((old : Fid) → o ≡ Some old → is_listed looked old ≡ true) → has S fid ≡ true
      → replaced_by S fid o ≡ Ok over → replaced_by T fid o ≡ Ok over
  replaced_up fid None over on also there h = h
  replaced_up fid (Some old) over on also there h =
      let u = unless_is (same_fid old fid || (is_dir_at (map.get S fid) || is_dir_at (map.get S old))) (with_version (map.get S old) old) over h in
      let other = same_there old (also old refl) (version_some (map.get S old) old over u.1) in
      (λ i. cond (same_fid old fid || (is_dir_at (same_there fid on there i) || is_dir_at (other i))) (Err Exists)
      (with_version (other i) old)) ∙ h

  move_up : (from_dir : Fid) (from : Name) (fid : Fid) (to : Name) (p : Fid × Option Fid) (op : Op)
      → is_listed looked fid ≡ true → ((old : Fid) → p.1 ≡ Some old → is_listed looked old ≡ true)
      → is_listed looked p.0 ≡ true → has S p.0 ≡ true → has S fid ≡ true
      → move_to s.held from_dir from fid to p ≡ Ok op → move_to t.held from_dir from fid to p ≡ Ok op
  move_up from_dir from fid to p op on also here dir there h =
      let done : Option Over → Accepted = λ over. Ok (RenameOp from_dir from p.0 to fid over) in
      let u = split (is_below s.held.parents p.0 fid) (then_find (replaced_by S fid p.1) done) h in
      let a = found_then (replaced_by S fid p.1) done op u.1 in
      ap (λ b. cond b (Err Loop) (then_find (replaced_by T fid p.1) done))
      (sym (part.above p.0 fid here dir) ∙ u.0) ∙ then_ok (replaced_by T fid p.1) done a.0 op
      (replaced_up fid p.1 a.0 on also there a.1) a.2
    where
      split : (b : Bool) (r : Accepted) → cond b (Err Loop) r ≡ Ok op → (b ≡ false) × (r ≡ Ok op)
      split true r h = absurd (cc)
      split false r h = (refl, h)

  rename_to_up : (from_dir : Fid) (from : Name) (fid : Fid) (path : List Name) (e : Ending) (op : Op)
      → ending path ≡ e → is_listed looked fid ≡ true → IsWithin (looked_up S (root_of volume) path) looked
      → has S fid ≡ true → rename_to s volume from_dir from fid e ≡ Ok op
      → rename_to t volume from_dir from fid e ≡ Ok op
  rename_to_up from_dir from fid path None op ends on within there h = absurd (not_at_root s volume Exists op h)
  rename_to_up from_dir from fid path (Some e) op ends on within there h =
      let all : IsWithin (along e) looked = subst (λ l. IsWithin (looked_up S (root_of volume) l) looked) (path_is path e ends) within in
      let a = found_then (place S volume e) (λ p. move_to s.held from_dir from fid e.1 p) op h in
      let is = place_parts S volume e a.0 a.1 in
      then_ok (place T volume e) (λ p. move_to t.held from_dir from fid e.1 p) a.0 op (place_up e a.0 all a.1)
      (move_up from_dir from fid e.1 a.0 op on (old_listed e a.0 all is)
      (place_dir e a.0 all is a.0.0 (end_listed S (root_of volume) e.0 a.0.0 is.front))
      (resolve_has S (root_of volume) e.0 a.0.0 is.front) there a.2)

  -- what is looked up along the new path, where the old one leads somewhere
  new_within : (from to : List Name) (fid : Fid) → resolve S (root_of volume) from ≡ Ok fid
      → IsWithin (looked_up_to_rename S volume from to) looked → IsWithin (looked_up S (root_of volume) to) looked
  new_within from to fid leads within g on =
      within g (listed_behind g (looked_up S (root_of volume) from)
      (look_on (resolve S (root_of volume) from) (λ x. looked_up S (root_of volume) to))
      ∙ or_right (is_listed (looked_up S (root_of volume) from) g) _
      (ap (λ r. is_listed (look_on r (λ x. looked_up S (root_of volume) to)) g) leads ∙ on))

  old_within : (from to : List Name) → IsWithin (looked_up_to_rename S volume from to) looked
      → IsWithin (looked_up S (root_of volume) from) looked
  old_within from to within g on =
      within g (listed_behind g (looked_up S (root_of volume) from)
      (look_on (resolve S (root_of volume) from) (λ x. looked_up S (root_of volume) to))
      ∙ or_left (is_listed (looked_up S (root_of volume) from) g) _ on)

  rename_up : (from to : List Name) (e : Ending) (op : Op) → ending from ≡ e
      → IsWithin (looked_up_to_rename S volume from to) looked → accept_rename s volume e (ending to) ≡ Ok op
      → accept_rename t volume e (ending to) ≡ Ok op
  rename_up from to None op ends within h = let a = found_then (held (map.get S (root_of volume)) (root_of volume)) (λ _. rename_root s volume (ending to)) op h in absurd (root_stays s volume (ending to) op a.2)
  rename_up from to (Some e) op ends within h =
      let path = path_is from e ends in
      let a = found_then (spot S volume e) (λ at. rename_to s volume at.0 e.1 at.1 (ending to)) op h in
      let is = spot_parts S volume e a.0 a.1 in
      let all : IsWithin (along e) looked = subst (λ l. IsWithin (looked_up S (root_of volume) l) looked) path (old_within from to within) in
      let leads : resolve S (root_of volume) from ≡ Ok a.0.1 = ap (resolve S (root_of volume)) path ∙ resolve_more S (root_of volume) e.0 e.1 a.0.0 a.0.1 is.front is.step is.there in
      then_ok (spot T volume e) (λ at. rename_to t volume at.0 e.1 at.1 (ending to)) a.0 op (spot_up e a.0 all a.1)
      (rename_to_up a.0.0 e.1 a.0.1 to (ending to) op refl (spot_object e a.0 all is)
      (new_within from to a.0.1 leads within) (held_is (map.get S a.0.1) a.0.1 a.0.1 is.there).1 a.2)

  -- ---- every kind

  remove_up : (path : List Name) (e : Ending) (op : Op) → ending path ≡ e
      → IsWithin (looked_up S (root_of volume) path) looked → accept_remove s volume e ≡ Ok op
      → accept_remove t volume e ≡ Ok op
  remove_up path None op ends within h = absurd (not_at_root s volume IsDir op h)
  remove_up path (Some e) op ends within h =
      let all : IsWithin (along e) looked = subst (λ l. IsWithin (looked_up S (root_of volume) l) looked) (path_is path e ends) within in
      let a = found_then (spot S volume e) (λ at. remove_at (map.get S at.1) at.0 e.1 at.1) op h in
      then_ok (spot T volume e) (λ at. remove_at (map.get T at.1) at.0 e.1 at.1) a.0 op (spot_up e a.0 all a.1)
      (node_up (λ o. remove_at o a.0.0 e.1 a.0.1) op a.0.1 (spot_object e a.0 all (spot_parts S volume e a.0 a.1))
      (λ x. cc) a.2)

  rmdir_all_up : (path : List Name) (e : Ending) (op : Op) → ending path ≡ e
      → IsWithin (looked_up S (root_of volume) path) looked → accept_rmdir s volume e ≡ Ok op
      → accept_rmdir t volume e ≡ Ok op
  rmdir_all_up path None op ends within h = absurd (not_at_root s volume Loop op h)
  rmdir_all_up path (Some e) op ends within h =
      let all : IsWithin (along e) looked = subst (λ l. IsWithin (looked_up S (root_of volume) l) looked) (path_is path e ends) within in
      let a = found_then (spot S volume e) (λ at. rmdir_at s (map.get S at.1) at.0 e.1 at.1) op h in
      then_ok (spot T volume e) (λ at. rmdir_at t (map.get T at.1) at.0 e.1 at.1) a.0 op (spot_up e a.0 all a.1)
      (rmdir_up a.0.0 e.1 a.0.1 op (spot_object e a.0 all (spot_parts S volume e a.0 a.1)) a.2)

  accept_up : (ask : Asked) (op : Op) → IsWithin (looked_up_for S volume ask) looked → accept s volume ask ≡ Ok op
      → accept t volume ask ≡ Ok op
  unfolding accept
  accept_up (Create path mode owner) op within h =
      creation_up (ending path) (λ dir name fid. CreateOp dir name fid mode owner) op within h
  accept_up (Mkdir path mode owner) op within h =
      creation_up (ending path) (λ dir name fid. MkdirOp dir name fid mode owner) op within h
  accept_up (Symlink path target) op within h =
      creation_up (ending path) (λ dir name fid. SymlinkOp dir name fid target 511 0) op within h
  accept_up (Store path content) op within h = end_up path (λ o g. store_at o g content) op within (λ g x. cc) h
  accept_up (Setattr path attrs) op within h = end_up path (λ o g. setattr_at o g attrs) op within (λ g x. cc) h
  accept_up (Remove path) op within h = remove_up path (ending path) op refl within h
  accept_up (Rmdir path) op within h = rmdir_all_up path (ending path) op refl within h
  accept_up (Rename from to) op within h = rename_up from to (ending from) op refl within h

pub what_was_looked_up : WhatWasLookedUpSuffices
what_was_looked_up s t volume ask op part h =
    accept_up volume (looked_up_for s.held.nodes volume ask) s t part ask op (λ g on. on) h

pub parts_accept : PartsAcceptAsTheWhole
parts_accept s t volume ask op part h = what_was_looked_up s t volume ask op (record {
  number = part.number;
  creations = part.creations;
  nodes = λ fid node on. part.nodes fid node;
  above = λ fid dir on there. ap (λ ps. is_below ps fid dir) part.parents;
  dirty_below = λ fid on there. part.dirty_below fid;
  fresh = part.fresh;
}) h
