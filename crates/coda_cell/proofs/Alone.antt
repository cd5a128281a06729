-- What a client accepts that holds a whole volume certifies there.
use Rattle.std.proofs.Common.{◌≡◌, ℕ, zero, suc, ◌<◌, ◌≤◌, ◌==◌, ◌||◌, ◌&&◌, not, Bool, true, false, cond, List, [], ◌∷◌, length, Option, Some, None, IsSome, is_some, Ok, Err, refl, sym, ap, subst, ◌∙◌, inl, inr, arith}
use Rattle.std.specs.Prelude.{nat_le}
use Rattle.std.specs.FinMap as map
use Rattle.std.specs.FinMap.{find}
use Rattle.std.specs.List.{list_any, AllByRecursion, IsDistinct}
use Rattle.std.specs.Map.{lookup}
use Rattle.std.specs.Cmp.{eq_by_cmp_equiv}
use Rattle.std.specs.Option.{option_map_or}
use Rattle.std.specs.Ordering.{eq_by_cmp}
use Rattle.std.proofs.lemmas.Bool.{cases_Bool, false≢true}
use Rattle.std.proofs.lemmas.Bool.Decides.{nat_tests}
use Rattle.std.proofs.lemmas.Map.Steps.{length-le_from_keys}
use Rattle.coda_fid.specs.Name.{name_cmp}
use Rattle.coda_fid.specs.Fid.{root_of, same_fid, same_sid, fid_cmp}
use Rattle.coda_fid.specs.declared.fid.Fid.{Fid}
use Rattle.coda_fid.specs.declared.fid.Sid.{Sid}
use Rattle.coda_fid.specs.declared.op.Attrs.{Attrs}
use Rattle.coda_fid.specs.declared.op.Over.{Over}
use Rattle.coda_fid.specs.declared.op.Op.{Op}
use Rattle.coda_fid.specs.declared.op.Op.TheVariants.{Create as CreateOp, Mkdir as MkdirOp, Symlink as SymlinkOp, Store as StoreOp, Setattr as SetattrOp, Remove as RemoveOp, Rmdir as RmdirOp, Rename as RenameOp}
use Rattle.coda_fid.specs.declared.op.Record.{Record}
use Rattle.coda_fid.proofs.Fids.{fids_total, same_fid_refl}
use Rattle.coda_tree.specs.declared.node.Node.{Node}
use Rattle.coda_tree.specs.declared.node.NodeKind.{NodeKind}
use Rattle.coda_tree.specs.declared.node.NodeKind.TheVariants.{File, Link, Dir}
use Rattle.coda_tree.specs.Bindings.{Name}
use Rattle.coda_tree.specs.Tree.{Child, IsBelow, itself, under}
use Rattle.coda_tree.specs.Volume.{Nodes, child, has, IsDir, IsDirNode, IsDirAt, IsVolume, parent_of, is_below}
use Rattle.coda_tree.proofs.Below.{is_below_sound}
use Rattle.coda_tree.proofs.Booleans.{or_true, has_some}
use Rattle.coda_tree.proofs.Parents.{tied_fid, parent_is, parent_sound}
use Rattle.coda_certify.specs.declared.reason.Reason.{Reason}
use Rattle.coda_certify.specs.declared.reason.Reason.TheVariants.{NoDir, WrongKind, NameOther, Marked, NotEmpty, Loop, VolumeFull}
use Rattle.coda_certify.specs.Checks.{Check, IsADir, IsUnmarked, IsNameFree, IsNotAbove, HasRoom, where_true, no_dir_of, marked_of, no_object_of, wrong_kind_of, is_no_dir, is_dir, is_no_file, creation_checks, store_checks, setattr_checks, remove_checks, rmdir_checks, move_checks, replace_checks, rename_checks, name_taken_of, fid_used_of, not_empty_in, version_of, change_of, not_empty_of, name_other_of, reason_of, ◌otherwise◌, first_reason, checks, certify}
use Rattle.coda_certify.specs.Replay.{MayCreate, applied, replay, unless_refused}
use Rattle.coda_certify.specs.Verdicts.{verdict_of}
use Rattle.coda_plain.specs.Deeds.{created_by}
use Rattle.coda_plain.specs.Decisions.{or_replayed, sent_of}
use Rattle.coda_venus.specs.Ask.{Asked, Create, Mkdir, Symlink, Store, Setattr, Remove, Rmdir, Rename, Ending, ending}
use Rattle.coda_cache.specs.Parents.{below_within}
use Rattle.coda_venus.specs.Held.{Held, Parents, is_below as is_held_below, held_after_operation, some_below}
use Rattle.coda_venus.specs.Looking.{then_find, held, resolve}
use Rattle.coda_venus.specs.Accepting.{Accepted, Sight, new_place, accept_creation, store_in, store_at, setattr_at, remove_in, remove_at, rmdir_of, rmdir_in, rmdir_at, spot, place, is_dir_kind, is_dir_at, with_version, replaced_by, move_to, rename_to, rename_root, accept_rename, accept_remove, accept_rmdir, accept}
use Rattle.coda_venus.specs.declared.refused.Refused.TheVariants as refused
use Rattle.coda_cell.specs.Alone.{IsWhole, AcceptedOperationsCertify, AreAccepted, no_more, one_more, ClientsAloneMeetNoConflict}
use Rattle.coda_venus.proofs.Accepted.{Relies, accepted_relies, ok_is, found_then, not_at_root, unless_is, or_none, place_is, root_stays, IsSpot, spot_is}
use Rattle.coda_cell.proofs.Going.{nodes_alone}

sid_same : (a : Sid) → same_sid a a ≡ true
sid_same a = let c : (a.client == a.client) ≡ true = grind (arith, nat_tests) in let n : (a.number == a.number) ≡ true = grind (arith, nat_tests) in (λ i. c i && n i)

where_false : (b : Bool) (why : Reason) → b ≡ false → where_true b why ≡ None
where_false b why e = ap (λ x. where_true x why) e

dir_there : (o : Option Node) (dir : Fid) → IsDirNode o → no_dir_of o dir ≡ None
dir_there None dir is = absurd is
dir_there (Some node) dir is = by node.kind is
  where
    by : (kind : NodeKind) → IsDir kind → where_true (is_no_dir kind) (NoDir dir) ≡ None
    by (File content) none = absurd none
    by (Link target) none = absurd none
    by (Dir entries) all = refl

object_there : (o : Option Node) (fid : Fid) → is_some o ≡ true → no_object_of o fid ≡ None
object_there None fid e = cc
object_there (Some node) fid e = refl

version_same : (o : Option Node) (node : Node) → o ≡ Some node → version_of o node.sid ≡ None
version_same o node is = ap (λ x. version_of x node.sid) is ∙ where_false (not (same_sid node.sid node.sid)) (change_of node.kind node.sid node.sid) (ap not (sid_same node.sid))

bound_there : (bound : Option Fid) (fid : Fid) → bound ≡ Some fid → name_other_of bound fid ≡ None
bound_there bound fid is = ap (λ x. name_other_of x fid) is ∙ where_false (not (same_fid fid fid)) (NameOther (Some fid)) (ap not (same_fid_refl fid))

kind_fine : (wrong : NodeKind → Bool) (o : Option Node) (node : Node) (kind : NodeKind) (fid : Fid) → o ≡ Some node → node.kind ≡ kind → wrong kind ≡ false → wrong_kind_of wrong o fid ≡ None
kind_fine wrong o node kind fid is k fine = ap (λ x. wrong_kind_of wrong x fid) is ∙ where_false (wrong node.kind) (WrongKind fid) (ap wrong k ∙ fine)

-- no check finds anything
abbrev pub FindNothing : Nodes → List Check → Type 0
FindNothing m [] = Unit {0}
FindNothing m (check ∷ more) = (reason_of m check ≡ None) × FindNothing m more

fine : (m : Nodes) (cs : List Check) → FindNothing m cs → first_reason m cs ≡ None
fine m [] none = refl
fine m (check ∷ more) none = ap (λ o. o otherwise first_reason m more) none.0 ∙ fine m more none.1

-- how many directories are above
abbrev height : {c : Child} {g f : Fid} → IsBelow c g f → ℕ
height (itself f same) = 0
height (under d n f h up) = suc (height up)

-- the objects on the way up, but for the last
abbrev climbed : {c : Child} {g f : Fid} → IsBelow c g f → List Fid
climbed (itself f same) = []
climbed (under d n f h up) = f ∷ climbed up

module _ {root : Fid} (m : Nodes) (v : IsVolume root m) (parents : Parents) (are : (f : Fid) → map.get parents f ≡ parent_of m f) where
  same_height : (f e : Fid) (r : IsBelow (child m) root f) (s : IsBelow (child m) root e) → f ≡ e → height r ≡ height s
  same_height f e (itself f' a) (itself e' b) same = refl
  same_height f e (itself f' a) (under d n e' h up) same = absurd (v.tree.unbound d n (h ∙ ap Some (sym same ∙ a)))
  same_height f e (under d n f' h up) (itself e' b) same = absurd (v.tree.unbound d n (h ∙ ap Some (same ∙ b)))
  same_height f e (under d n f' h up) (under k j e' i up') same = ap suc (same_height d k up up' (v.tree.once d n k j e (h ∙ ap Some same) i).0)

  length_climbed : (f : Fid) (r : IsBelow (child m) root f) → length (climbed r) ≡ height r
  length_climbed f (itself f' same) = refl
  length_climbed f (under d n f' h up) = let rest = length_climbed d up in omega (arith, rest)

  differ : (f d : Fid) (r : IsBelow (child m) root f) (s : IsBelow (child m) root d) → height s < height r → eq_by_cmp fid_cmp f d ≡ false
  differ f d r s lt = elim (eq_by_cmp fid_cmp f d) as (λ b. eq_by_cmp fid_cmp f d ≡ b → b ≡ false) [
    | true ↦ λ e. let same = same_height f d r s (tied_fid f d e) in absurd (omega (arith, same, lt))
    | false ↦ λ _. refl
  ] refl

  away : (f : Fid) (r : IsBelow (child m) root f) (d : Fid) (up : IsBelow (child m) root d) → height up < height r → AllByRecursion (λ y. eq_by_cmp fid_cmp f y ≡ false) (climbed up)
  away f r d (itself d' same) lt = tt
  away f r d (under e n d' h up) lt = (differ f d r (under e n d h up) lt, away f r e up (omega (arith, lt)))

  distinct : (f : Fid) (r : IsBelow (child m) root f) → IsDistinct (eq_by_cmp fid_cmp) (climbed r)
  unfolding IsDistinct
  distinct f (itself f' same) = tt
  distinct f (under d n f' h up) = (away f (under d n f h up) d up (omega arith), distinct d up)

  have_parents : (f : Fid) (r : IsBelow (child m) root f) (q : Fid) → list_any (eq_by_cmp fid_cmp q) (climbed r) ≡ true → is_some (map.get parents q) ≡ true
  have_parents f (itself f' same) q h = absurd (false≢true h)
  have_parents f (under d n f' i up) q h = elim (eq_by_cmp fid_cmp q f) as (λ b. eq_by_cmp fid_cmp q f ≡ b → (b || list_any (eq_by_cmp fid_cmp q) (climbed up)) ≡ true → is_some (map.get parents q) ≡ true) [
    | true ↦ λ e _. ap is_some (are q ∙ ap (parent_of m) (tied_fid q f e) ∙ parent_is m v d n f i)
    | false ↦ λ _ rest. have_parents d up q rest
  ] refl h

  find_lookup : (es : List (Fid × Fid)) (q : Fid) → find fid_cmp q es ≡ lookup (eq_by_cmp fid_cmp q) es
  find_lookup [] q = refl
  find_lookup (e ∷ es) q = ap (cond (eq_by_cmp fid_cmp q e.0) (Some e.1)) (find_lookup es q)

  -- the way to the root is no longer than there are parents
  height_le : (f : Fid) (r : IsBelow (child m) root f) → height r ≤ map.len parents
  height_le f r =
      let few = length-le_from_keys (eq_by_cmp_equiv fids_total) (climbed r) (map.entries parents) (distinct f r) (λ q h.
      subst IsSome (map.get-entries parents q ∙ find_lookup (map.entries parents) q) (has_some (map.get parents q) (have_parents f r q h))) in
      omega (arith, few, length_climbed f r, map.len-entries parents)

  -- and the way to what is above no longer than that to the root
  not_higher : (g f : Fid) (r : IsBelow (child m) root f) (b : IsBelow (child m) g f) → height b ≤ height r
  not_higher g f r (itself f' same) = omega arith
  not_higher g f (itself f' same) (under d n f'' h up) = absurd (v.tree.unbound d n (h ∙ ap Some same))
  not_higher g f (under d n f' h up) (under e k f'' i up') =
      let same : e ≡ d = (v.tree.once e k d n f i h).0 in
      let rest = not_higher g e (subst (IsBelow (child m) root) (sym same) up) up' in
      let kept : height (subst (IsBelow (child m) root) (sym same) up) ≡ height up = same_height e d (subst (IsBelow (child m) root) (sym same) up) up same in
      omega (arith, rest, kept)

  found_up : (g f : Fid) (b : IsBelow (child m) g f) (steps : ℕ) → height b ≤ steps → below_within parents steps f g ≡ true
  found_up g f (itself f' same) zero le = ap (λ x. same_fid f x) (sym same) ∙ same_fid_refl f
  found_up g f (itself f' same) (suc steps) le = ap (λ b. b || option_map_or (λ p. below_within parents steps p g) (map.get parents f) false) (ap (λ x. same_fid f x) (sym same) ∙ same_fid_refl f)
  found_up g f (under d n f' h up) zero le = absurd (omega (arith, le))
  found_up g f (under d n f' h up) (suc steps) le =
      let rest = found_up g d up steps (omega (arith, le)) in
      ap (λ o. same_fid f g || option_map_or (λ p. below_within parents steps p g) o false) (are f ∙ parent_is m v d n f h)
      ∙ ap (λ b. same_fid f g || b) rest ∙ or_true (same_fid f g)

  -- what isn't held below it by the parents isn't below it in the volume
  not_below : (f g : Fid) → has m f ≡ true → is_held_below parents f g ≡ false → is_below m f g ≡ false
  unfolding is_held_below
  not_below f g there none = elim (cases_Bool (is_below m f g)) [
    | inl is ↦ (let b = is_below_sound m f g is in
        let r = v.tree.reached f there in
        let low = not_higher g f r b in
        let few = height_le f r in
        absurd (false≢true (sym none ∙ found_up g f b (map.len parents) (omega (arith, low, few)))))
    | inr e ↦ e
  ]

module _ (s : Sight) (volume : ℕ) (whole : IsWhole volume s.held) where
  abbrev nodes : Nodes
  nodes = s.held.nodes

  unmarked_at : (fid : Fid) → reason_of nodes (IsUnmarked fid) ≡ None
  unmarked_at fid = by (map.get nodes fid) refl
    where
      by : (o : Option Node) → map.get nodes fid ≡ o → marked_of o fid ≡ None
      by None is = refl
      by (Some node) is = where_false node.marked (Marked fid) (whole.unmarked fid node is)

  room : reason_of nodes HasRoom ≡ None
  room = let few = whole.room in let fits : nat_le 100000 (map.len nodes) ≡ false = grind (arith, nat_tests, few) in where_false (nat_le 100000 (map.len nodes)) (VolumeFull (map.len nodes)) fits

  dir_at : (dir : Fid) → IsDirAt nodes dir → reason_of nodes (IsADir dir) ≡ None
  dir_at dir is = dir_there (map.get nodes dir) dir is

  free_at : (dir : Fid) (name : Name) → child nodes dir name ≡ None → reason_of nodes (IsNameFree dir name) ≡ None
  free_at dir name is = ap name_taken_of is

  creation_fine : (dir : Fid) (name : Name) (fid : Fid) → MayCreate nodes dir name fid → first_reason nodes (creation_checks dir name fid) ≡ None
  creation_fine dir name fid may =
      fine nodes (creation_checks dir name fid) (dir_at dir may.dir_there, (unmarked_at dir, (free_at dir name may.name_free, (ap (λ o. fid_used_of o fid) may.fid_free, (room, tt)))))

  store_fine : (fid : Fid) (content : List ℕ) (op : Op) → store_at (map.get nodes fid) fid content ≡ Ok op → certify nodes op ≡ None
  unfolding certify
  store_fine fid content op h = by (map.get nodes fid) refl h
    where
      within : (node : Node) (kind : NodeKind) → map.get nodes fid ≡ Some node → node.kind ≡ kind → store_in kind fid node.sid content ≡ Ok op → first_reason nodes (checks op) ≡ None
      within node (File old) is k e = subst (λ o. first_reason nodes (checks o) ≡ None) (ok_is (StoreOp fid node.sid content) op e)
          (fine nodes (store_checks fid node.sid) (unmarked_at fid, (object_there (map.get nodes fid) fid (ap is_some is), (kind_fine is_no_file (map.get nodes fid) node (File old) fid is k refl, (version_same (map.get nodes fid) node is, tt)))))
      within node (Link target) is k e = cc
      within node (Dir entries) is k e = cc

      by : (o : Option Node) → map.get nodes fid ≡ o → store_at o fid content ≡ Ok op → first_reason nodes (checks op) ≡ None
      by None is e = cc
      by (Some node) is e = within node node.kind is refl e

  setattr_fine : (fid : Fid) (attrs : Attrs) (op : Op) → setattr_at (map.get nodes fid) fid attrs ≡ Ok op → certify nodes op ≡ None
  unfolding certify
  setattr_fine fid attrs op h = by (map.get nodes fid) refl h
    where
      by : (o : Option Node) → map.get nodes fid ≡ o → setattr_at o fid attrs ≡ Ok op → first_reason nodes (checks op) ≡ None
      by None is e = cc
      by (Some node) is e = subst (λ o. first_reason nodes (checks o) ≡ None) (ok_is (SetattrOp fid node.sid attrs) op e)
          (fine nodes (setattr_checks fid node.sid) (unmarked_at fid, (object_there (map.get nodes fid) fid (ap is_some is), (version_same (map.get nodes fid) node is, tt))))

  remove_fine : (e : List Name × Name) (at : Fid × Fid) (op : Op) → IsSpot nodes volume e at → remove_at (map.get nodes at.1) at.0 e.1 at.1 ≡ Ok op → certify nodes op ≡ None
  unfolding certify
  remove_fine e at op here h = by (map.get nodes at.1) refl h
    where
      gone : (node : Node) (kind : NodeKind) → map.get nodes at.1 ≡ Some node → node.kind ≡ kind → is_dir kind ≡ false → first_reason nodes (checks (RemoveOp at.0 e.1 at.1 node.sid)) ≡ None
      gone node kind is k no_dir =
          fine nodes (remove_checks at.0 e.1 at.1 node.sid) (
            dir_at at.0 here.dir,
            (
              unmarked_at at.0,
              (
                unmarked_at at.1,
                (
                  object_there (map.get nodes at.1) at.1 (ap is_some is),
                  (
                    kind_fine is_dir (map.get nodes at.1) node kind at.1 is k no_dir,
                    (bound_there (child nodes at.0 e.1) at.1 here.bound, (version_same (map.get nodes at.1) node is, tt)),
                  ),
                ),
              ),
            ),
          )

      within : (node : Node) (kind : NodeKind) → map.get nodes at.1 ≡ Some node → node.kind ≡ kind → remove_in kind at.0 e.1 at.1 node.sid ≡ Ok op → first_reason nodes (checks op) ≡ None
      within node (File content) is k x = subst (λ o. first_reason nodes (checks o) ≡ None) (ok_is (RemoveOp at.0 e.1 at.1 node.sid) op x) (gone node (File content) is k refl)
      within node (Link target) is k x = subst (λ o. first_reason nodes (checks o) ≡ None) (ok_is (RemoveOp at.0 e.1 at.1 node.sid) op x) (gone node (Link target) is k refl)
      within node (Dir entries) is k x = cc

      by : (o : Option Node) → map.get nodes at.1 ≡ o → remove_at o at.0 e.1 at.1 ≡ Ok op → first_reason nodes (checks op) ≡ None
      by None is x = cc
      by (Some node) is x = within node node.kind is refl x

  rmdir_fine : (e : List Name × Name) (at : Fid × Fid) (op : Op) → IsSpot nodes volume e at → rmdir_at s (map.get nodes at.1) at.0 e.1 at.1 ≡ Ok op → certify nodes op ≡ None
  unfolding certify
  rmdir_fine e at op here h = by (map.get nodes at.1) refl h
    where
      emptied : (node : Node) (entries : map.FinMap name_cmp Fid) (empty none : Bool) → map.get nodes at.1 ≡ Some node → node.kind ≡ Dir entries → (map.len entries == 0) ≡ empty → rmdir_of (empty && none) at.0 e.1 at.1 node.sid ≡ Ok op
          → first_reason nodes (checks op) ≡ None
      emptied node entries true true is k none_in x = subst (λ o. first_reason nodes (checks o) ≡ None) (ok_is (RmdirOp at.0 e.1 at.1 node.sid) op x)
          (fine nodes (rmdir_checks at.0 e.1 at.1 node.sid) (
            dir_at at.0 here.dir,
            (
              unmarked_at at.0,
              (
                unmarked_at at.1,
                (
                  object_there (map.get nodes at.1) at.1 (ap is_some is),
                  (
                    kind_fine is_no_dir (map.get nodes at.1) node (Dir entries) at.1 is k refl,
                    (
                      bound_there (child nodes at.0 e.1) at.1 here.bound,
                      (
                        version_same (map.get nodes at.1) node is,
                        (ap not_empty_of is ∙ ap not_empty_in k ∙ where_false (not (map.len entries == 0)) NotEmpty (ap not none_in), tt),
                      ),
                    ),
                  ),
                ),
              ),
            ),
          ))
      emptied node entries true false is k none_in x = cc
      emptied node entries false none is k none_in x = cc

      within : (node : Node) (kind : NodeKind) → map.get nodes at.1 ≡ Some node → node.kind ≡ kind → rmdir_in s kind at.0 e.1 at.1 node.sid ≡ Ok op → first_reason nodes (checks op) ≡ None
      within node (File content) is k x = cc
      within node (Link target) is k x = cc
      within node (Dir entries) is k x = emptied node entries (map.len entries == 0) (not (some_below s.held s.is_dirty at.1)) is k refl x

      by : (o : Option Node) → map.get nodes at.1 ≡ o → rmdir_at s o at.0 e.1 at.1 ≡ Ok op → first_reason nodes (checks op) ≡ None
      by None is x = cc
      by (Some node) is x = within node node.kind is refl x

  same_kinds : (kind : NodeKind) → is_dir kind ≡ is_dir_kind kind
  same_kinds (File content) = refl
  same_kinds (Link target) = refl
  same_kinds (Dir entries) = refl

  no_dir_there : (o : Option Node) (fid : Fid) → is_dir_at o ≡ false → wrong_kind_of is_dir o fid ≡ None
  no_dir_there None fid e = refl
  no_dir_there (Some node) fid e = where_false (is_dir node.kind) (WrongKind fid) (same_kinds node.kind ∙ e)

  no_loop : (dir fid : Fid) → IsDirAt nodes dir → is_held_below s.held.parents dir fid ≡ false → reason_of nodes (IsNotAbove fid dir) ≡ None
  no_loop dir fid there none = where_false (is_below nodes dir fid) Loop (not_below nodes whole.tree s.held.parents whole.parents dir fid (dir_is_there (map.get nodes dir) there) none)
    where
      dir_is_there : (o : Option Node) → IsDirNode o → is_some o ≡ true
      dir_is_there None is = absurd is
      dir_is_there (Some node) is = refl

  moved_fine : (from_dir : Fid) (from : Name) (fid : Fid) (to : Name) (p : Fid × Option Fid) (op : Op) → IsDirAt nodes from_dir → child nodes from_dir from ≡ Some fid → has nodes fid ≡ true → IsDirAt nodes p.0 → child nodes p.0 to ≡ p.1
      → move_to s.held from_dir from fid to p ≡ Ok op → certify nodes op ≡ None
  unfolding certify
  moved_fine from_dir from fid to p op from_there from_bound there to_there bound h = at_place p.1 bound rest.1
    where
      below : (b : Bool) (r : Accepted) → is_held_below s.held.parents p.0 fid ≡ b → cond b (Err refused.Loop) r ≡ Ok op → (is_held_below s.held.parents p.0 fid ≡ false) × (r ≡ Ok op)
      below true r e x = cc
      below false r e x = (e, x)

      rest : (is_held_below s.held.parents p.0 fid ≡ false) × (then_find (replaced_by nodes fid p.1) (λ over. Ok (RenameOp from_dir from p.0 to fid over)) ≡ Ok op)
      rest = below (is_held_below s.held.parents p.0 fid) (then_find (replaced_by nodes fid p.1) (λ over. Ok (RenameOp from_dir from p.0 to fid over))) refl h

      moves : child nodes p.0 to ≡ None → FindNothing nodes (move_checks from_dir from p.0 to fid)
      moves free = (
        dir_at from_dir from_there,
        (
          dir_at p.0 to_there,
          (
            unmarked_at from_dir,
            (
              unmarked_at p.0,
              (
                unmarked_at fid,
                (
                  object_there (map.get nodes fid) fid there,
                  (free_at p.0 to free, (bound_there (child nodes from_dir from) fid from_bound, (no_loop p.0 fid to_there rest.0, tt))),
                ),
              ),
            ),
          ),
        ),
      )

      replaces : (old : Fid) (node : Node) → child nodes p.0 to ≡ Some old → map.get nodes old ≡ Some node → same_fid old fid ≡ false → is_dir_at (map.get nodes fid) ≡ false → is_dir_at (map.get nodes old) ≡ false
          → FindNothing nodes (replace_checks from_dir from p.0 to fid (record { fid = old; pre = node.sid }))
      replaces old node at is other file old_file = (
        dir_at from_dir from_there,
        (
          dir_at p.0 to_there,
          (
            unmarked_at from_dir,
            (
              unmarked_at p.0,
              (
                unmarked_at fid,
                (
                  unmarked_at old,
                  (
                    object_there (map.get nodes fid) fid there,
                    (
                      object_there (map.get nodes old) old (ap is_some is),
                      (
                        no_dir_there (map.get nodes old) old old_file,
                        (
                          no_dir_there (map.get nodes fid) fid file,
                          (
                            where_false (same_fid old fid) (WrongKind fid) other,
                            (bound_there (child nodes from_dir from) fid from_bound, (bound_there (child nodes p.0 to) old at, (version_same (map.get nodes old) node is, (no_loop p.0 fid to_there rest.0, tt)))),
                          ),
                        ),
                      ),
                    ),
                  ),
                ),
              ),
            ),
          ),
        ),
      )

      over_there : (old : Fid) (o : Option Node) (over : Option Over) → child nodes p.0 to ≡ Some old → map.get nodes old ≡ o → same_fid old fid ≡ false → is_dir_at (map.get nodes fid) ≡ false → is_dir_at (map.get nodes old) ≡ false
          → with_version o old ≡ Ok over → first_reason nodes (rename_checks from_dir from p.0 to fid over) ≡ None
      over_there old None over at is other file old_file x = cc
      over_there old (Some node) over at is other file old_file x =
          subst (λ v. first_reason nodes (rename_checks from_dir from p.0 to fid v) ≡ None) (ok_is (Some (record { fid = old; pre = node.sid })) over x)
          (fine nodes (replace_checks from_dir from p.0 to fid (record { fid = old; pre = node.sid })) (replaces old node at is other file old_file))

      at_place : (b : Option Fid) → child nodes p.0 to ≡ b → then_find (replaced_by nodes fid b) (λ over. Ok (RenameOp from_dir from p.0 to fid over)) ≡ Ok op → first_reason nodes (checks op) ≡ None
      at_place None at x = subst (λ o. first_reason nodes (checks o) ≡ None) (ok_is (RenameOp from_dir from p.0 to fid None) op x) (fine nodes (move_checks from_dir from p.0 to fid) (moves at))
      at_place (Some old) at x =
          let r = found_then (replaced_by nodes fid (Some old)) (λ over. Ok (RenameOp from_dir from p.0 to fid over)) op x in
          let u = unless_is (same_fid old fid || (is_dir_at (map.get nodes fid) || is_dir_at (map.get nodes old))) (with_version (map.get nodes old) old) r.0 r.1 in
          let n = or_none (same_fid old fid) (is_dir_at (map.get nodes fid) || is_dir_at (map.get nodes old)) u.0 in
          let d = or_none (is_dir_at (map.get nodes fid)) (is_dir_at (map.get nodes old)) n.1 in
          subst (λ o. first_reason nodes (checks o) ≡ None) (ok_is (RenameOp from_dir from p.0 to fid r.0) op r.2) (over_there old (map.get nodes old) r.0 at refl n.0 d.0 d.1 u.1)

  creates_fine : (op : Op) (dir : Fid) (name : Name) (fid : Fid) → checks op ≡ creation_checks dir name fid → MayCreate nodes dir name fid → certify nodes op ≡ None
  unfolding certify
  creates_fine op dir name fid are may = ap (first_reason nodes) are ∙ creation_fine dir name fid may

  rename_fine : (from to : Ending) (op : Op) → accept_rename s volume from to ≡ Ok op → certify nodes op ≡ None
  rename_fine None to op h = (let a = found_then (held (map.get nodes (root_of volume)) (root_of volume)) (λ _. rename_root s volume to) op h in absurd (root_stays s volume to op a.2))
  rename_fine (Some e) None op h =
      (let a = found_then (spot nodes volume e) (λ at. rename_to s volume at.0 e.1 at.1 None) op h in absurd (not_at_root s volume refused.Exists op a.2))
  rename_fine (Some e) (Some e') op h =
      let a = found_then (spot nodes volume e) (λ at. rename_to s volume at.0 e.1 at.1 (Some e')) op h in
      let at = spot_is nodes volume e a.0 a.1 in
      let b = found_then (place nodes volume e') (λ p. move_to s.held a.0.0 e.1 a.0.1 e'.1 p) op a.2 in
      let p = place_is nodes volume e' b.0 b.1 in
      moved_fine a.0.0 e.1 a.0.1 e'.1 b.0 op at.dir at.bound at.there p.0 p.1 b.2

  remove_ending : (e : Ending) (op : Op) → accept_remove s volume e ≡ Ok op → certify nodes op ≡ None
  remove_ending None op h = absurd (not_at_root s volume refused.IsDir op h)
  remove_ending (Some e) op h = (let a = found_then (spot nodes volume e) (λ at. remove_at (map.get nodes at.1) at.0 e.1 at.1) op h in remove_fine e a.0 op (spot_is nodes volume e a.0 a.1) a.2)

  rmdir_ending : (e : Ending) (op : Op) → accept_rmdir s volume e ≡ Ok op → certify nodes op ≡ None
  rmdir_ending None op h = absurd (not_at_root s volume refused.Loop op h)
  rmdir_ending (Some e) op h = (let a = found_then (spot nodes volume e) (λ at. rmdir_at s (map.get nodes at.1) at.0 e.1 at.1) op h in rmdir_fine e a.0 op (spot_is nodes volume e a.0 a.1) a.2)

  -- what is relied on is enough for a creation
  created_fine : (op : Op) → Relies s volume op → created_by op ≡ 1 → certify nodes op ≡ None
  created_fine (CreateOp dir name fid mode owner) r e = creates_fine (CreateOp dir name fid mode owner) dir name fid refl r.place
  created_fine (MkdirOp dir name fid mode owner) r e = creates_fine (MkdirOp dir name fid mode owner) dir name fid refl r.place
  created_fine (SymlinkOp dir name fid target mode owner) r e = creates_fine (SymlinkOp dir name fid target mode owner) dir name fid refl r.place
  created_fine _ r e = absurd (omega (arith, e))

  creation_ending : (e : Ending) (make : Fid → Name → Fid → Op) (op : Op) → ((dir : Fid) (name : Name) (fid : Fid) → created_by (make dir name fid) ≡ 1) → accept_creation s volume e make ≡ Ok op → created_by op ≡ 1
  creation_ending None make op one h = absurd (not_at_root s volume refused.Exists op h)
  creation_ending (Some e) make op one h = (let a = found_then (new_place s volume e) (λ p. Ok (make p.0 e.1 p.1)) op h in subst (λ o. created_by o ≡ 1) (ok_is (make a.0.0 e.1 a.0.1) op a.2) (one a.0.0 e.1 a.0.1))

  accepted_certifies : (ask : Asked) (op : Op) → accept s volume ask ≡ Ok op → certify nodes op ≡ None
  unfolding accept
  accepted_certifies (Create path mode owner) op h = created_fine op (accepted_relies s volume (Create path mode owner) op h) (creation_ending (ending path) (λ dir name fid. CreateOp dir name fid mode owner) op (λ dir name fid. refl) h)
  accepted_certifies (Mkdir path mode owner) op h = created_fine op (accepted_relies s volume (Mkdir path mode owner) op h) (creation_ending (ending path) (λ dir name fid. MkdirOp dir name fid mode owner) op (λ dir name fid. refl) h)
  accepted_certifies (Symlink path target) op h = created_fine op (accepted_relies s volume (Symlink path target) op h) (creation_ending (ending path) (λ dir name fid. SymlinkOp dir name fid target 511 0) op (λ dir name fid. refl) h)
  accepted_certifies (Store path content) op h = (let a = found_then (resolve nodes (root_of volume) path) (λ fid. store_at (map.get nodes fid) fid content) op h in store_fine a.0 content op a.2)
  accepted_certifies (Setattr path attrs) op h = (let a = found_then (resolve nodes (root_of volume) path) (λ fid. setattr_at (map.get nodes fid) fid attrs) op h in setattr_fine a.0 attrs op a.2)
  accepted_certifies (Remove path) op h = remove_ending (ending path) op h
  accepted_certifies (Rmdir path) op h = rmdir_ending (ending path) op h
  accepted_certifies (Rename from to) op h = rename_fine (ending from) (ending to) op h

pub accepted_operations_certify : AcceptedOperationsCertify
accepted_operations_certify s volume ask op whole h = accepted_certifies s volume whole ask op h

-- a run of operations that are accepted in turn is applied to what was held
replays : (volume client : ℕ) (h : Held) (run : List Record) → AreAccepted volume client h run → (left : Nodes) × (replay h.nodes client run ≡ Ok left)
replays volume client h [] (no_more h') = (h.nodes, refl)
replays volume client h (rec ∷ run) (one_more s ask rec' run' whole accepted rest) =
    let more = replays volume client (held_after_operation s.held client rec) run rest in
    let left = nodes_alone s volume client rec (accepted_relies s volume ask rec.op accepted) (λ f p is. parent_sound s.held.nodes f p (sym (whole.parents f) ∙ is)) in (
      more.0,
      ap (λ o. unless_refused o rec.number (replay (applied s.held.nodes client rec) client run)) (accepted_operations_certify s volume ask rec.op whole accepted)
          ∙ ap (λ m. replay m client run) (sym left) ∙ more.1,
    )

pub clients_alone_meet_no_conflict : ClientsAloneMeetNoConflict
clients_alone_meet_no_conflict volume client h run accepted =
    let whole = replays volume client h run accepted in
    ap (λ r. verdict_of (or_replayed r (replay h.nodes client (sent_of run)))) whole.1
