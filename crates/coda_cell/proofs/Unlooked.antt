-- Where acceptance misses nothing there is nothing to look up.
use Rattle.std.proofs.Common.{◌≡◌, ℕ, List, [], ◌∷◌, ◌++◌, Option, Some, None, option_map, Result, Ok, Err, refl, sym, ap, ◌∙◌, subst}
use Rattle.std.specs.FinMap as map
use Rattle.coda_fid.specs.Fid.{root_of}
use Rattle.coda_fid.specs.declared.fid.Fid.{Fid}
use Rattle.coda_fid.specs.declared.op.Op.{Op}
use Rattle.coda_tree.specs.declared.node.Node.{Node}
use Rattle.coda_tree.specs.declared.node.NodeKind.{NodeKind}
use Rattle.coda_tree.specs.declared.node.NodeKind.TheVariants.{File, Link, Dir}
use Rattle.coda_tree.specs.Bindings.{Name}
use Rattle.coda_tree.specs.Volume.{Nodes, parent_of}
use Rattle.coda_venus.specs.Ask.{Asked, Create, Mkdir, Symlink, Store, Setattr, Remove, Rmdir, Rename, Ending, ending, front_of}
use Rattle.coda_cell.specs.Held.{held_after_fetches}
use Rattle.coda_venus.specs.Held.{Held}
use Rattle.coda_cell.specs.Looking.{offered, fetch_of, look, looked, look_on, look_along}
use Rattle.coda_venus.specs.Looking.{then_find, held, found, step_in, step_from, resolve}
use Rattle.coda_venus.specs.Accepting.{Sight, new_place, held_bound, bound_in, at_root, accept_creation, store_at, setattr_at, remove_at, rmdir_at, spot, bound_at, place, move_to, rename_to, rename_root, accept_rename, accept_remove, accept_rmdir, accept}
use Rattle.coda_cell.specs.Asking.{rename_look_ups, look_ups}
use Rattle.coda_venus.specs.declared.refused.Refused.{Refused}
use Rattle.coda_venus.specs.declared.refused.Refused.TheVariants as refused

-- no object is missing
abbrev pub MissesNothing : {A : Type 0} → Result A Refused → Type 0
MissesNothing (Ok x) = Unit {0}
MissesNothing (Err (refused.Need fid)) = ⊥
MissesNothing (Err why) = Unit {0}

-- what comes first misses nothing either
first_misses : {A B : Type 0} (r : Result A Refused) (next : A → Result B Refused) → MissesNothing (then_find r next) → MissesNothing r
first_misses (Ok x) next n = tt
first_misses (Err (refused.Need fid)) next n = n
first_misses (Err _) next n = n

-- and what comes then
then_misses : {A B : Type 0} (r : Result A Refused) (next : A → Result B Refused) (x : A) → r ≡ Ok x → MissesNothing (then_find r next) → MissesNothing (next x)
then_misses r next x is n = subst (λ o. MissesNothing (then_find o next)) is n

-- an object that is held isn't fetched
no_look : (offers : Option Nodes) (h : Held) (fid : Fid) (node : Node) → map.get h.nodes fid ≡ Some node → look offers h fid ≡ []
no_look offers h fid node is = ap (λ o. fetch_of o (offered offers fid) (parent_of h.nodes fid) fid) is

pub no_look_along : (offers : Option Nodes) (h : Held) (at : Fid) (names : List Name) → MissesNothing (resolve h.nodes at names) → look_along offers h at names ≡ []
no_look_along offers h at [] n = by (map.get h.nodes at) refl n
  where
    by : (o : Option Node) → map.get h.nodes at ≡ o → MissesNothing (held o at) → look offers h at ≡ []
    by None is m = absurd m
    by (Some node) is m = no_look offers h at node is
no_look_along offers h at (name ∷ names) n = by (map.get h.nodes at) refl (λ next. no_look_along offers h next names) n
  where
    goes : (r : Result Fid Refused) → ((next : Fid) → MissesNothing (resolve h.nodes next names) → look_along offers h next names ≡ []) → MissesNothing (then_find r (λ next. resolve h.nodes next names)) → look_on r (λ next. look_along offers h next names) ≡ []
    goes (Err why) rest m = refl
    goes (Ok next) rest m = rest next m

    by : (o : Option Node) → map.get h.nodes at ≡ o → ((next : Fid) → MissesNothing (resolve h.nodes next names) → look_along offers h next names ≡ []) → MissesNothing (then_find (step_from o at name) (λ next. resolve h.nodes next names))
        → look offers h at ++ look_on (step_from (map.get (looked offers h at).nodes at) at name) (λ next. look_along offers (looked offers h at) next names) ≡ []
    by None is rest m = absurd m
    by (Some node) is rest m =
        let none = no_look offers h at node is in
        (λ i. none i ++ look_on (step_from (map.get (held_after_fetches h (none i)).nodes at) at name) (λ next. look_along offers (held_after_fetches h (none i)) next names))
        ∙ goes (step_from (map.get h.nodes at) at name) rest (subst (λ o. MissesNothing (then_find (step_from o at name) (λ next. resolve h.nodes next names))) (sym is) m)

-- where a path leads is where its last name leads from its directory
resolve_push : (m : Nodes) (at : Fid) (front : List Name) (name : Name)
    → resolve m at (front ++ name ∷ []) ≡ then_find (resolve m at front) (λ dir. then_find (step_from (map.get m dir) dir name) (λ fid. held (map.get m fid) fid))
resolve_push m at [] name = by (map.get m at) refl
  where
    by : (o : Option Node) → map.get m at ≡ o
        → then_find (step_from o at name) (λ next. held (map.get m next) next) ≡ then_find (held o at) (λ dir. then_find (step_from (map.get m dir) dir name) (λ fid. held (map.get m fid) fid))
    by None is = refl
    by (Some node) is = ap (λ o. then_find (step_from o at name) (λ fid. held (map.get m fid) fid)) (sym is)
resolve_push m at (first ∷ front) name = by (step_from (map.get m at) at first) (λ next. resolve_push m next front name)
  where
    by : (r : Result Fid Refused)
        → ((next : Fid) → resolve m next (front ++ name ∷ []) ≡ then_find (resolve m next front) (λ dir. then_find (step_from (map.get m dir) dir name) (λ fid. held (map.get m fid) fid)))
        → then_find r (λ next. resolve m next (front ++ name ∷ []))
        ≡ then_find (then_find r (λ next. resolve m next front)) (λ dir. then_find (step_from (map.get m dir) dir name) (λ fid. held (map.get m fid) fid))
    by (Err why) rest = refl
    by (Ok next) rest = rest next

-- a path with a last name is its front and that name
pub ended : (names : List Name) (e : List Name × Name) → ending names ≡ Some e → names ≡ e.0 ++ e.1 ∷ []
ended [] e is = cc
ended (name ∷ []) e is = let same : ([], name) ≡ e = cc in ap (λ (p : List Name × Name). p.0 ++ p.1 ∷ []) same
ended (name ∷ other ∷ names) e is = by (ending (other ∷ names)) refl (ended (other ∷ names)) is
  where
    by : (o : Ending) → ending (other ∷ names) ≡ o → ((d : List Name × Name) → ending (other ∷ names) ≡ Some d → other ∷ names ≡ d.0 ++ d.1 ∷ []) → option_map (λ (e : List Name × Name). (name ∷ e.0, e.1)) o ≡ Some e → name ∷ other ∷ names ≡ e.0 ++ e.1 ∷ []
    by None none rest x = cc
    by (Some d) some rest x =
        let same : (name ∷ d.0, d.1) ≡ e = cc in
        ap (λ l. name ∷ l) (rest d some) ∙ ap (λ (p : List Name × Name). p.0 ++ p.1 ∷ []) same

pub not_ended : (names : List Name) → ending names ≡ None → names ≡ []
not_ended [] is = refl
not_ended (name ∷ []) is = cc
not_ended (name ∷ other ∷ names) is = by (ending (other ∷ names)) refl (not_ended (other ∷ names)) is
  where
    by : (o : Ending) → ending (other ∷ names) ≡ o → (ending (other ∷ names) ≡ None → other ∷ names ≡ []) → option_map {U = List Name × Name} (λ (e : List Name × Name). (name ∷ e.0, e.1)) o ≡ None → name ∷ other ∷ names ≡ []
    by None none rest x = let nil : other ∷ names ≡ [] = rest none in cc
    by (Some d) some rest x = cc

-- a path leads to the object of its spot
pub leads_to_spot : (m : Nodes) (volume : ℕ) (e : List Name × Name) → resolve m (root_of volume) (e.0 ++ e.1 ∷ []) ≡ then_find (spot m volume e) (λ at. Ok at.1)
leads_to_spot m volume e = resolve_push m (root_of volume) e.0 e.1 ∙ by (resolve m (root_of volume) e.0)
  where
    last : (dir : Fid) (r : Result Fid Refused) → r ≡ then_find (then_find r (λ there. Ok (dir, there))) (λ (at : Fid × Fid). Ok at.1)
    last dir (Ok there) = refl
    last dir (Err why) = refl

    inner : (dir : Fid) (r : Result Fid Refused) → then_find r (λ fid. held (map.get m fid) fid) ≡ then_find (then_find r (λ fid. then_find (held (map.get m fid) fid) (λ there. Ok (dir, there)))) (λ (at : Fid × Fid). Ok at.1)
    inner dir (Ok fid) = last dir (held (map.get m fid) fid)
    inner dir (Err why) = refl

    by : (r : Result Fid Refused) → then_find r (λ dir. then_find (step_from (map.get m dir) dir e.1) (λ fid. held (map.get m fid) fid))
        ≡ then_find (then_find r (λ dir. then_find (step_from (map.get m dir) dir e.1) (λ fid. then_find (held (map.get m fid) fid) (λ there. Ok (dir, there))))) (λ (at : Fid × Fid). Ok at.1)
    by (Ok dir) = inner dir (step_from (map.get m dir) dir e.1)
    by (Err why) = refl

found_misses : {A B : Type 0} (r : Result A Refused) (see : A → B) → MissesNothing r → MissesNothing (then_find r (λ x. Ok (see x)))
found_misses (Ok x) see n = tt
found_misses (Err (refused.Need fid)) see n = n
found_misses (Err _) see n = n

spot_misses : (m : Nodes) (volume : ℕ) (e : List Name × Name) → MissesNothing (spot m volume e) → MissesNothing (resolve m (root_of volume) (e.0 ++ e.1 ∷ []))
spot_misses m volume e n = subst MissesNothing (sym (leads_to_spot m volume e)) (found_misses (spot m volume e) (λ at. at.1) n)

place_misses : (m : Nodes) (volume : ℕ) (e : List Name × Name) → MissesNothing (place m volume e) → MissesNothing (resolve m (root_of volume) (e.0 ++ e.1 ∷ []))
place_misses m volume e n = subst MissesNothing (sym (resolve_push m (root_of volume) e.0 e.1)) (by (resolve m (root_of volume) e.0) n)
  where
    bound : (o : Option Fid) → MissesNothing (held_bound m o) → MissesNothing (then_find (found o) (λ fid. held (map.get m fid) fid))
    bound None x = tt
    bound (Some fid) x = first_misses (held (map.get m fid) fid) (λ there. Ok (Some there)) x

    in_kind : (kind : NodeKind) → MissesNothing (bound_in m kind e.1) → MissesNothing (then_find (step_in kind e.1) (λ fid. held (map.get m fid) fid))
    in_kind (File content) x = tt
    in_kind (Link target) x = tt
    in_kind (Dir entries) x = bound (map.get entries e.1) x

    at : (o : Option Node) (dir : Fid) → MissesNothing (bound_at m o dir e.1) → MissesNothing (then_find (step_from o dir e.1) (λ fid. held (map.get m fid) fid))
    at None dir x = x
    at (Some node) dir x = in_kind node.kind x

    by : (r : Result Fid Refused) → MissesNothing {A = Fid × Option Fid} (then_find r (λ dir. then_find (bound_at m (map.get m dir) dir e.1) (λ b. Ok (dir, b)))) → MissesNothing (then_find r (λ dir. then_find (step_from (map.get m dir) dir e.1) (λ fid. held (map.get m fid) fid)))
    by (Err why) x = first_misses {B = Fid × Option Fid} (let r : Result Fid Refused = Err why in r) (λ dir. then_find (bound_at m (map.get m dir) dir e.1) (λ b. Ok (dir, b))) x
    by (Ok dir) x = at (map.get m dir) dir (first_misses {B = Fid × Option Fid} (bound_at m (map.get m dir) dir e.1) (λ b. Ok (dir, b)) x)

module _ (offers : Option Nodes) (s : Sight) (volume : ℕ) where
  abbrev top : Fid
  top = root_of volume

  at_top : (refusal : Refused) → MissesNothing (at_root s volume refusal) → MissesNothing (resolve s.held.nodes top [])
  at_top refusal n = first_misses (held (map.get s.held.nodes top) top) (λ _. Err refusal) n

  creation : (e : Ending) (make : Fid → Name → Fid → Op) → MissesNothing (accept_creation s volume e make) → look_along offers s.held top (front_of e) ≡ []
  creation None make n = no_look_along offers s.held top [] (at_top refused.Exists n)
  creation (Some e) make n = no_look_along offers s.held top e.0 (first_misses (resolve s.held.nodes top e.0) _ (first_misses (new_place s volume e) (λ p. Ok (make p.0 e.1 p.1)) n))

  removal : (path : List Name) (e : Ending) → ending path ≡ e → MissesNothing (accept_remove s volume e) → look_along offers s.held top path ≡ []
  removal path None is n = no_look_along offers s.held top path (subst (λ l. MissesNothing (resolve s.held.nodes top l)) (sym (not_ended path is)) (at_top refused.IsDir n))
  removal path (Some e) is n = no_look_along offers s.held top path (subst (λ l. MissesNothing (resolve s.held.nodes top l)) (sym (ended path e is))
      (spot_misses s.held.nodes volume e (first_misses (spot s.held.nodes volume e) (λ at. remove_at (map.get s.held.nodes at.1) at.0 e.1 at.1) n)))

  removal_of_directory : (path : List Name) (e : Ending) → ending path ≡ e → MissesNothing (accept_rmdir s volume e) → look_along offers s.held top path ≡ []
  removal_of_directory path None is n = no_look_along offers s.held top path (subst (λ l. MissesNothing (resolve s.held.nodes top l)) (sym (not_ended path is)) (at_top refused.Loop n))
  removal_of_directory path (Some e) is n = no_look_along offers s.held top path (subst (λ l. MissesNothing (resolve s.held.nodes top l)) (sym (ended path e is))
      (spot_misses s.held.nodes volume e (first_misses (spot s.held.nodes volume e) (λ at. rmdir_at s (map.get s.held.nodes at.1) at.0 e.1 at.1) n)))

  -- the new path of a rename
  to_place : (path : List Name) (e : List Name × Name) → ending path ≡ Some e → MissesNothing (place s.held.nodes volume e) → look_along offers s.held top path ≡ []
  to_place path e is n = no_look_along offers s.held top path (subst (λ l. MissesNothing (resolve s.held.nodes top l)) (sym (ended path e is)) (place_misses s.held.nodes volume e n))

  to_top : (path : List Name) (refusal : Refused) → ending path ≡ None → MissesNothing (at_root s volume refusal) → look_along offers s.held top path ≡ []
  to_top path refusal is n = no_look_along offers s.held top path (subst (λ l. MissesNothing (resolve s.held.nodes top l)) (sym (not_ended path is)) (at_top refusal n))

  renamed_to : (from_dir : Fid) (from : Name) (fid : Fid) (path : List Name) (e : Ending) → ending path ≡ e → MissesNothing (rename_to s volume from_dir from fid e) → look_along offers s.held top path ≡ []
  renamed_to from_dir from fid path None is n = to_top path refused.Exists is n
  renamed_to from_dir from fid path (Some e) is n = to_place path e is (first_misses (place s.held.nodes volume e) (λ p. move_to s.held from_dir from fid e.1 p) n)

  root_to : (path : List Name) (e : Ending) → ending path ≡ e → MissesNothing (rename_root s volume e) → look_along offers s.held top path ≡ []
  root_to path None is n = to_top path refused.Loop is n
  root_to path (Some e) is n = to_place path e is (first_misses (place s.held.nodes volume e) (λ p. Err refused.Loop) n)

  -- both paths of a rename, once the first leads to an object or nowhere
  both_paths : (from to : List Name) → look_along offers s.held top from ≡ [] → ((fid : Fid) → resolve s.held.nodes top from ≡ Ok fid → look_along offers s.held top to ≡ []) → rename_look_ups offers s.held volume from to ≡ []
  both_paths from to none second =
      (λ i. none i ++ look_on (resolve (held_after_fetches s.held (none i)).nodes top from) (λ fid. look_along offers (held_after_fetches s.held (none i)) top to)) ∙ by (resolve s.held.nodes top from) refl
    where
      by : (r : Result Fid Refused) → resolve s.held.nodes top from ≡ r → look_on r (λ fid. look_along offers s.held top to) ≡ []
      by (Err why) is = refl
      by (Ok fid) is = second fid is

  -- where the old path leads to an object, so does its spot
  spot_of : (path : List Name) (e : List Name × Name) (fid : Fid) → ending path ≡ Some e → resolve s.held.nodes top path ≡ Ok fid → (at : Fid × Fid) × (spot s.held.nodes volume e ≡ Ok at)
  spot_of path e fid is leads = by (spot s.held.nodes volume e) refl (sym (leads_to_spot s.held.nodes volume e) ∙ sym (ap (resolve s.held.nodes top) (ended path e is)) ∙ leads)
    where
      by : (r : Result (Fid × Fid) Refused) → spot s.held.nodes volume e ≡ r → then_find r (λ at. Ok at.1) ≡ Ok fid → (at : Fid × Fid) × (r ≡ Ok at)
      by (Ok at) is' x = (at, refl)
      by (Err why) is' x = cc

  renaming : (from to : List Name) (e : Ending) → ending from ≡ e → MissesNothing (accept_rename s volume e (ending to)) → rename_look_ups offers s.held volume from to ≡ []
  renaming from to None is n =
      let first = first_misses (held (map.get s.held.nodes top) top) (λ _. rename_root s volume (ending to)) n in
      both_paths from to (no_look_along offers s.held top from (subst (λ l. MissesNothing (resolve s.held.nodes top l)) (sym (not_ended from is)) first))
      (λ fid leads. root_to to (ending to) refl
      (then_misses (held (map.get s.held.nodes top) top) (λ _. rename_root s volume (ending to)) fid (sym (ap (resolve s.held.nodes top) (not_ended from is)) ∙ leads) n))
  renaming from to (Some e) is n =
      both_paths from to (no_look_along offers s.held top from (subst (λ l. MissesNothing (resolve s.held.nodes top l)) (sym (ended from e is))
      (spot_misses s.held.nodes volume e (first_misses (spot s.held.nodes volume e) (λ at. rename_to s volume at.0 e.1 at.1 (ending to)) n))))
      (λ fid leads. let at = spot_of from e fid is leads in
      renamed_to at.0.0 e.1 at.0.1 to (ending to) refl (then_misses (spot s.held.nodes volume e) (λ x. rename_to s volume x.0 e.1 x.1 (ending to)) at.0 at.1 n))

  -- where acceptance misses nothing, nothing is fetched
  pub no_look_ups : (ask : Asked) → MissesNothing (accept s volume ask) → look_ups offers s.held volume ask ≡ []
  unfolding accept
  no_look_ups (Create path mode owner) n = creation (ending path) _ n
  no_look_ups (Mkdir path mode owner) n = creation (ending path) _ n
  no_look_ups (Symlink path target) n = creation (ending path) _ n
  no_look_ups (Store path content) n = no_look_along offers s.held top path (first_misses (resolve s.held.nodes top path) (λ fid. store_at (map.get s.held.nodes fid) fid content) n)
  no_look_ups (Setattr path attrs) n = no_look_along offers s.held top path (first_misses (resolve s.held.nodes top path) (λ fid. setattr_at (map.get s.held.nodes fid) fid attrs) n)
  no_look_ups (Remove path) n = removal path (ending path) refl n
  no_look_ups (Rmdir path) n = removal_of_directory path (ending path) refl n
  no_look_ups (Rename from to) n = renaming from to (ending from) refl n
