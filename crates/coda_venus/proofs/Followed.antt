-- Acceptance makes an operation of some ask exactly where it makes it of the objects that the operation names, to which paths lead.
use Rattle.std.proofs.Common.{◌≡◌, ℕ, ◌==◌, ◌&&◌, not, Bool, true, false, List, [], ◌∷◌, ◌++◌, Option, Some, None, is_some, option_map, Result, Ok, Err, refl, sym, ap, ◌∙◌, subst}
use Rattle.std.specs.Prelude.{IfOk}
use Rattle.std.specs.FinMap as map
use Rattle.coda_fid.specs.Fid.{root_of}
use Rattle.coda_fid.specs.declared.fid.Fid.{Fid}
use Rattle.coda_fid.specs.declared.fid.Sid.{Sid}
use Rattle.coda_fid.specs.declared.op.Attrs.{Attrs}
use Rattle.coda_fid.specs.declared.op.Op.{Op}
use Rattle.coda_fid.specs.declared.op.Op.TheVariants.{Create as CreateOp, Mkdir as MkdirOp, Symlink as SymlinkOp, Store as StoreOp, Setattr as SetattrOp, Remove as RemoveOp, Rmdir as RmdirOp, Rename as RenameOp}
use Rattle.coda_tree.specs.declared.node.Node.{Node}
use Rattle.coda_tree.specs.declared.node.NodeKind.{NodeKind}
use Rattle.coda_tree.specs.declared.node.NodeKind.TheVariants.{File, Link, Dir}
use Rattle.coda_tree.specs.Bindings.{Name}
use Rattle.coda_tree.specs.Volume.{Nodes, has}
use Rattle.coda_venus.specs.declared.refused.Refused.TheVariants.{Exists, IsDir as IsADirectory, Loop}
use Rattle.coda_venus.specs.Ask.{Asked, Create, Mkdir, Symlink, Store, Setattr, Remove, Rmdir, Rename, Ending, ending, too_big, too_long}
use Rattle.coda_venus.specs.Held.{is_below, some_below}
use Rattle.coda_venus.specs.Looking.{then_find, held, step_from, resolve}
use Rattle.coda_venus.specs.Accepting.{Sight, new_under, new_place, accept_creation, store_in, store_at, setattr_at, remove_in, remove_at, rmdir_of, rmdir_in, rmdir_at, spot, bound_at, place, replaced_by, move_to, rename_to, rename_root, accept_rename, accept_remove, accept_rmdir, accept}
use Rattle.coda_venus.specs.Reaching.{IsReached, IsAccepted, IsMadeThere, ArePlaced}
use Rattle.coda_venus.proofs.Accepted.{ok_is, found_then, not_at_root, held_is, root_stays, unless_below}

-- the path of a name behind others
ending_of : (names : List Name) (name : Name) → ending (names ++ name ∷ []) ≡ Some (names, name)
ending_of [] name = refl
ending_of (n ∷ []) name = refl
ending_of (n ∷ m ∷ names) name = ap (option_map (λ (e : List Name × Name). (n ∷ e.0, e.1))) (ending_of (m ∷ names) name)

held_of : (o : Option Node) (fid : Fid) → is_some o ≡ true → held o fid ≡ Ok fid
held_of None fid there = cc
held_of (Some node) fid there = refl

module _ (s : Sight) (volume : ℕ) where
  abbrev m : Nodes
  m = s.held.nodes

  -- it is made of what it names, to which paths lead
  abbrev Follows : Op → Type 0
  Follows op = IsMadeThere s volume op × ArePlaced s.held.nodes volume op

  -- ---- what paths lead to is accepted

  creation_of : (make : Fid → Name → Fid → Op) (names : List Name) (dir : Fid) (name : Name) (fid : Fid) → resolve m (root_of volume) names ≡ Ok dir → new_under s volume (map.get m dir) dir name ≡ Ok fid
      → accept_creation s volume (ending (names ++ name ∷ [])) make ≡ Ok (make dir name fid)
  creation_of make names dir name fid leads new =
      let at : new_place s volume (names, name) ≡ Ok (dir, fid) =
      ap (λ r. then_find r (λ d. then_find (new_under s volume (map.get m d) d name) (λ f. Ok (d, f)))) leads ∙ ap (λ r. then_find r (λ f. Ok (dir, f))) new in
      ap (λ e. accept_creation s volume e make) (ending_of names name) ∙ ap (λ r. then_find r (λ (p : Fid × Fid). Ok (make p.0 name p.1))) at

  spot_of : (names : List Name) (dir : Fid) (name : Name) (fid : Fid) → resolve m (root_of volume) names ≡ Ok dir → step_from (map.get m dir) dir name ≡ Ok fid → has m fid ≡ true → spot m volume (names, name) ≡ Ok (dir, fid)
  spot_of names dir name fid leads step there =
      ap (λ r. then_find r (λ d. then_find (step_from (map.get m d) d name) (λ f. then_find (held (map.get m f) f) (λ t. Ok (d, t))))) leads
      ∙ ap (λ r. then_find r (λ f. then_find (held (map.get m f) f) (λ t. Ok (dir, t)))) step
      ∙ ap (λ r. then_find r (λ t. Ok (dir, t))) (held_of (map.get m fid) fid there)

  place_of : (names : List Name) (dir : Fid) (name : Name) (bound : Option Fid) → resolve m (root_of volume) names ≡ Ok dir → bound_at m (map.get m dir) dir name ≡ Ok bound → place m volume (names, name) ≡ Ok (dir, bound)
  place_of names dir name bound leads at =
      ap (λ r. then_find r (λ d. then_find (bound_at m (map.get m d) d name) (λ b. Ok (d, b)))) leads ∙ ap (λ r. then_find r (λ b. Ok (dir, b))) at

  remove_there : (o : Option Node) (dir : Fid) (name : Name) (fid : Fid) (op : Op) → remove_at o dir name fid ≡ Ok op → is_some o ≡ true
  remove_there None dir name fid op h = cc
  remove_there (Some node) dir name fid op h = refl

  rmdir_there : (o : Option Node) (dir : Fid) (name : Name) (fid : Fid) (op : Op) → rmdir_at s o dir name fid ≡ Ok op → is_some o ≡ true
  rmdir_there None dir name fid op h = cc
  rmdir_there (Some node) dir name fid op h = refl

  pub accepted_of : (op : Op) → IsMadeThere s volume op → ArePlaced s.held.nodes volume op → IsAccepted s volume op
  unfolding accept
  accepted_of (CreateOp dir name fid mode owner) made at = record { ask = Create (at.0 ++ name ∷ []) mode owner; small = refl; accepted = creation_of (λ d n f. CreateOp d n f mode owner) at.0 dir name fid at.1 made }
  accepted_of (MkdirOp dir name fid mode owner) made at = record { ask = Mkdir (at.0 ++ name ∷ []) mode owner; small = refl; accepted = creation_of (λ d n f. MkdirOp d n f mode owner) at.0 dir name fid at.1 made }
  accepted_of (SymlinkOp dir name fid target mode owner) made at = record {
    ask = Symlink (at.0 ++ name ∷ []) target;
    small = refl;
    accepted = creation_of (λ d n f. SymlinkOp d n f target 511 0) at.0 dir name fid at.1 made.0 ∙ (λ i. Ok (SymlinkOp dir name fid target (sym made.1 i) (sym made.2 i)));
  }
  accepted_of (StoreOp fid pre content) made at = record { ask = Store at.0 content; small = made.0; accepted = ap (λ r. then_find r (λ f. store_at (map.get m f) f content)) at.1 ∙ made.1 }
  accepted_of (SetattrOp fid pre attrs) made at = record { ask = Setattr at.0 attrs; small = refl; accepted = ap (λ r. then_find r (λ f. setattr_at (map.get m f) f attrs)) at.1 ∙ made }
  accepted_of (RemoveOp dir name fid pre) made at = record {
    ask = Remove (at.0 ++ name ∷ []);
    small = refl;
    accepted = ap (accept_remove s volume) (ending_of at.0 name)
        ∙ ap (λ r. then_find r (λ (p : Fid × Fid). remove_at (map.get m p.1) p.0 name p.1)) (spot_of at.0 dir name fid at.1 made.0 (remove_there (map.get m fid) dir name fid (RemoveOp dir name fid pre) made.1)) ∙ made.1;
  }
  accepted_of (RmdirOp dir name fid pre) made at = record {
    ask = Rmdir (at.0 ++ name ∷ []);
    small = refl;
    accepted = ap (accept_rmdir s volume) (ending_of at.0 name)
        ∙ ap (λ r. then_find r (λ (p : Fid × Fid). rmdir_at s (map.get m p.1) p.0 name p.1)) (spot_of at.0 dir name fid at.1 made.0 (rmdir_there (map.get m fid) dir name fid (RmdirOp dir name fid pre) made.1)) ∙ made.1;
  }
  accepted_of (RenameOp from_dir from to_dir to fid over) made at = record {
    ask = Rename (at.0.0 ++ from ∷ []) (at.1.0 ++ to ∷ []);
    small = refl;
    accepted = (λ i. accept_rename s volume (ending_of at.0.0 from i) (ending_of at.1.0 to i))
        ∙ ap (λ r. then_find r (λ (p : Fid × Fid). rename_to s volume p.0 from p.1 (Some (at.1.0, to)))) (spot_of at.0.0 from_dir from fid at.0.1 made.step made.there)
        ∙ ap (λ r. then_find r (λ (p : Fid × Option Fid). move_to s.held from_dir from fid to p)) (place_of at.1.0 to_dir to made.bound at.1.1 made.place) ∙ made.moves;
  }

  -- ---- and only that

  creation_from : (e : Ending) (make : Fid → Name → Fid → Op) (op : Op) → ((dir : Fid) (name : Name) (fid : Fid) → new_under s volume (map.get m dir) dir name ≡ Ok fid → IsReached m volume dir → Follows (make dir name fid))
      → accept_creation s volume e make ≡ Ok op → Follows op
  creation_from None make op to h = absurd (not_at_root s volume Exists op h)
  creation_from (Some e) make op to h =
      let a = found_then (new_place s volume e) (λ p. Ok (make p.0 e.1 p.1)) op h in
      let b = found_then (resolve m (root_of volume) e.0) (λ dir. then_find (new_under s volume (map.get m dir) dir e.1) (λ fid. Ok (dir, fid))) a.0 a.1 in
      let d = found_then (new_under s volume (map.get m b.0) b.0 e.1) (λ fid. Ok (b.0, fid)) a.0 b.2 in
      let same = ok_is (b.0, d.0) a.0 d.2 in
      subst Follows (ap (λ (p : Fid × Fid). make p.0 e.1 p.1) same ∙ ok_is (make a.0.0 e.1 a.0.1) op a.2) (to b.0 e.1 d.0 d.1 (e.0, b.1))

  store_from : (o : Option Node) (fid : Fid) (content : List ℕ) (op : Op) → store_at o fid content ≡ Ok op → (pre : Sid) × (op ≡ StoreOp fid pre content)
  store_from None fid content op h = cc
  store_from (Some node) fid content op h = by node.kind h
    where
      by : (kind : NodeKind) → store_in kind fid node.sid content ≡ Ok op → (pre : Sid) × (op ≡ StoreOp fid pre content)
      by (File old) h = (node.sid, sym (ok_is (StoreOp fid node.sid content) op h))
      by (Link target) h = cc
      by (Dir entries) h = cc

  setattr_from : (o : Option Node) (fid : Fid) (attrs : Attrs) (op : Op) → setattr_at o fid attrs ≡ Ok op → (pre : Sid) × (op ≡ SetattrOp fid pre attrs)
  setattr_from None fid attrs op h = cc
  setattr_from (Some node) fid attrs op h = (node.sid, sym (ok_is (SetattrOp fid node.sid attrs) op h))

  remove_from : (o : Option Node) (dir : Fid) (name : Name) (fid : Fid) (op : Op) → remove_at o dir name fid ≡ Ok op → (pre : Sid) × (op ≡ RemoveOp dir name fid pre)
  remove_from None dir name fid op h = cc
  remove_from (Some node) dir name fid op h = by node.kind h
    where
      by : (kind : NodeKind) → remove_in kind dir name fid node.sid ≡ Ok op → (pre : Sid) × (op ≡ RemoveOp dir name fid pre)
      by (File content) h = (node.sid, sym (ok_is (RemoveOp dir name fid node.sid) op h))
      by (Link target) h = (node.sid, sym (ok_is (RemoveOp dir name fid node.sid) op h))
      by (Dir entries) h = cc

  rmdir_by : (may : Bool) (dir : Fid) (name : Name) (fid : Fid) (pre : Sid) (op : Op) → rmdir_of may dir name fid pre ≡ Ok op → op ≡ RmdirOp dir name fid pre
  rmdir_by true dir name fid pre op h = sym (ok_is (RmdirOp dir name fid pre) op h)
  rmdir_by false dir name fid pre op h = cc

  rmdir_from : (o : Option Node) (dir : Fid) (name : Name) (fid : Fid) (op : Op) → rmdir_at s o dir name fid ≡ Ok op → (pre : Sid) × (op ≡ RmdirOp dir name fid pre)
  rmdir_from None dir name fid op h = cc
  rmdir_from (Some node) dir name fid op h = by node.kind h
    where
      by : (kind : NodeKind) → rmdir_in s kind dir name fid node.sid ≡ Ok op → (pre : Sid) × (op ≡ RmdirOp dir name fid pre)
      by (File content) h = cc
      by (Link target) h = cc
      by (Dir entries) h = (node.sid, rmdir_by ((map.len entries == 0) && not (some_below s.held s.is_dirty fid)) dir name fid node.sid op h)

  -- where a path ends in a directory that binds an object
  spot_from : (e : List Name × Name) (at : Fid × Fid) → spot m volume e ≡ Ok at → IsReached m volume at.0 × (step_from (map.get m at.0) at.0 e.1 ≡ Ok at.1) × (has m at.1 ≡ true)
  spot_from e at h =
      let a = found_then (resolve m (root_of volume) e.0) (λ dir. then_find (step_from (map.get m dir) dir e.1) (λ fid. then_find (held (map.get m fid) fid) (λ there. Ok (dir, there)))) at h in
      let b = found_then (step_from (map.get m a.0) a.0 e.1) (λ fid. then_find (held (map.get m fid) fid) (λ there. Ok (a.0, there))) at a.2 in
      let d = found_then (held (map.get m b.0) b.0) (λ there. Ok (a.0, there)) at b.2 in
      by a.0 b.0 d.0 (e.0, a.1) b.1 d.1 (ok_is (a.0, d.0) at d.2)
    where
      by : (dir fid there : Fid) → IsReached m volume dir → step_from (map.get m dir) dir e.1 ≡ Ok fid → held (map.get m fid) fid ≡ Ok there → (dir, there) ≡ at → IsReached m volume at.0 × (step_from (map.get m at.0) at.0 e.1 ≡ Ok at.1) × (has m at.1 ≡ true)
      by dir fid there reached step h same =
          let is = held_is (map.get m fid) fid there h in
          subst (λ (p : Fid × Fid). IsReached m volume p.0 × (step_from (map.get m p.0) p.0 e.1 ≡ Ok p.1) × (has m p.1 ≡ true)) same (reached, step ∙ ap Ok is.0, subst (λ f. has m f ≡ true) is.0 is.1)

  store_follows : (fid : Fid) (content : List ℕ) (op : Op) → too_long content ≡ None → IsReached m volume fid → store_at (map.get m fid) fid content ≡ Ok op → Follows op
  store_follows fid content op small reached h = let is = store_from (map.get m fid) fid content op h in subst Follows (sym is.1) ((small, h ∙ ap Ok is.1), reached)

  setattr_follows : (fid : Fid) (attrs : Attrs) (op : Op) → IsReached m volume fid → setattr_at (map.get m fid) fid attrs ≡ Ok op → Follows op
  setattr_follows fid attrs op reached h = let is = setattr_from (map.get m fid) fid attrs op h in subst Follows (sym is.1) (h ∙ ap Ok is.1, reached)

  remove_follows : (dir : Fid) (name : Name) (fid : Fid) (op : Op) → IsReached m volume dir → step_from (map.get m dir) dir name ≡ Ok fid → remove_at (map.get m fid) dir name fid ≡ Ok op → Follows op
  remove_follows dir name fid op reached step h = let is = remove_from (map.get m fid) dir name fid op h in subst Follows (sym is.1) ((step, h ∙ ap Ok is.1), reached)

  rmdir_follows : (dir : Fid) (name : Name) (fid : Fid) (op : Op) → IsReached m volume dir → step_from (map.get m dir) dir name ≡ Ok fid → rmdir_at s (map.get m fid) dir name fid ≡ Ok op → Follows op
  rmdir_follows dir name fid op reached step h = let is = rmdir_from (map.get m fid) dir name fid op h in subst Follows (sym is.1) ((step, h ∙ ap Ok is.1), reached)

  by_remove : (e : Ending) (op : Op) → accept_remove s volume e ≡ Ok op → Follows op
  by_remove None op h = absurd (not_at_root s volume IsADirectory op h)
  by_remove (Some e) op h =
      let a = found_then (spot m volume e) (λ at. remove_at (map.get m at.1) at.0 e.1 at.1) op h in
      let at = spot_from e a.0 a.1 in
      remove_follows a.0.0 e.1 a.0.1 op at.0 at.1 a.2

  by_rmdir : (e : Ending) (op : Op) → accept_rmdir s volume e ≡ Ok op → Follows op
  by_rmdir None op h = absurd (not_at_root s volume Loop op h)
  by_rmdir (Some e) op h =
      let a = found_then (spot m volume e) (λ at. rmdir_at s (map.get m at.1) at.0 e.1 at.1) op h in
      let at = spot_from e a.0 a.1 in
      rmdir_follows a.0.0 e.1 a.0.1 op at.0 at.1 a.2

  rename_follows : (from_dir : Fid) (from : Name) (fid to_dir : Fid) (to : Name) (bound : Option Fid) (op : Op) → IsReached m volume from_dir → step_from (map.get m from_dir) from_dir from ≡ Ok fid → has m fid ≡ true → IsReached m volume to_dir
      → bound_at m (map.get m to_dir) to_dir to ≡ Ok bound → move_to s.held from_dir from fid to (to_dir, bound) ≡ Ok op → Follows op
  rename_follows from_dir from fid to_dir to bound op reached step there reached_to at moves =
      let left = unless_below (is_below s.held.parents to_dir fid) (then_find (replaced_by m fid bound) (λ over. Ok (RenameOp from_dir from to_dir to fid over))) op moves in
      let over = found_then (replaced_by m fid bound) (λ over. Ok (RenameOp from_dir from to_dir to fid over)) op left in
      let is = ok_is (RenameOp from_dir from to_dir to fid over.0) op over.2 in
      subst Follows is (record { bound = bound; step = step; there = there; place = at; moves = moves ∙ ap Ok (sym is) }, (reached, reached_to))

  by_rename_to : (from_dir : Fid) (from : Name) (fid : Fid) (to : Ending) (op : Op) → IsReached m volume from_dir → step_from (map.get m from_dir) from_dir from ≡ Ok fid → has m fid ≡ true → rename_to s volume from_dir from fid to ≡ Ok op → Follows op
  by_rename_to from_dir from fid None op reached step there h = absurd (not_at_root s volume Exists op h)
  by_rename_to from_dir from fid (Some e) op reached step there h =
      let a = found_then (place m volume e) (λ p. move_to s.held from_dir from fid e.1 p) op h in
      let b = found_then (resolve m (root_of volume) e.0) (λ dir. then_find (bound_at m (map.get m dir) dir e.1) (λ bound. Ok (dir, bound))) a.0 a.1 in
      let d = found_then (bound_at m (map.get m b.0) b.0 e.1) (λ bound. Ok (b.0, bound)) a.0 b.2 in
      rename_follows from_dir from fid b.0 e.1 d.0 op reached step there (e.0, b.1) d.1 (ap (move_to s.held from_dir from fid e.1) (ok_is (b.0, d.0) a.0 d.2) ∙ a.2)

  by_rename : (from to : Ending) (op : Op) → accept_rename s volume from to ≡ Ok op → Follows op
  by_rename None to op h =
      let a = found_then (held (map.get m (root_of volume)) (root_of volume)) (λ _. rename_root s volume to) op h in
      absurd (root_stays s volume to op a.2)
  by_rename (Some e) to op h =
      let a = found_then (spot m volume e) (λ at. rename_to s volume at.0 e.1 at.1 to) op h in
      let at = spot_from e a.0 a.1 in
      by_rename_to a.0.0 e.1 a.0.1 to op at.0 at.1 at.2 a.2

  from_ask : (ask : Asked) (op : Op) → too_big ask ≡ None → accept s volume ask ≡ Ok op → Follows op
  unfolding accept
  from_ask (Create path mode owner) op small h = creation_from (ending path) (λ d n f. CreateOp d n f mode owner) op (λ d n f new at. (new, at)) h
  from_ask (Mkdir path mode owner) op small h = creation_from (ending path) (λ d n f. MkdirOp d n f mode owner) op (λ d n f new at. (new, at)) h
  from_ask (Symlink path target) op small h = creation_from (ending path) (λ d n f. SymlinkOp d n f target 511 0) op (λ d n f new at. ((new, refl, refl), at)) h
  from_ask (Store path content) op small h =
      let a = found_then (resolve m (root_of volume) path) (λ fid. store_at (map.get m fid) fid content) op h in
      store_follows a.0 content op small (path, a.1) a.2
  from_ask (Setattr path attrs) op small h =
      let a = found_then (resolve m (root_of volume) path) (λ fid. setattr_at (map.get m fid) fid attrs) op h in
      setattr_follows a.0 attrs op (path, a.1) a.2
  from_ask (Remove path) op small h = by_remove (ending path) op h
  from_ask (Rmdir path) op small h = by_rmdir (ending path) op h
  from_ask (Rename from to) op small h = by_rename (ending from) (ending to) op h

  pub follows : (op : Op) → IsAccepted s volume op → IsMadeThere s volume op × ArePlaced s.held.nodes volume op
  follows op is = from_ask is.ask op is.small is.accepted

-- ---- by the two tests

pub accepts_yes : {E : Type 0} (s : Sight) (volume : ℕ) (op : Op) (r : Result Bool E) → IsMadeThere s volume op → IfOk r (λ b. b ≡ true → ArePlaced s.held.nodes volume op) → IfOk r (λ b. b ≡ true → IsAccepted s volume op)
accepts_yes s volume op (Ok b) made placed = λ h. accepted_of s volume op made (placed h)
accepts_yes s volume op (Err e) made placed = tt

pub accepts_no : {E : Type 0} (s : Sight) (volume : ℕ) (op : Op) (r : Result Bool E) → IfOk r (λ b. ArePlaced s.held.nodes volume op → b ≡ true) → IfOk r (λ b. IsAccepted s volume op → b ≡ true)
accepts_no s volume op (Ok b) placed = λ is. placed (follows s volume op is).1
accepts_no s volume op (Err e) placed = tt
