-- What a client misses of what it was asked can't be fetched.
use Rattle.std.proofs.Common.{◌≡◌, ℕ, true, List, [], ◌∷◌, ◌++◌, Option, Some, None, option_map, Result, Ok, Err, refl, sym, ap, subst, ◌∙◌, inl, inr}
use Rattle.std.specs.FinMap as map
use Rattle.std.specs.Prelude.{is_some}
use Rattle.std.proofs.lemmas.Option.{none-some}
use Rattle.coda_fid.specs.Fid.{root_of}
use Rattle.coda_fid.specs.declared.fid.Fid.{Fid}
use Rattle.coda_tree.specs.declared.node.Node.{Node}
use Rattle.coda_tree.specs.declared.node.NodeKind.{NodeKind}
use Rattle.coda_tree.specs.declared.node.NodeKind.TheVariants.{File, Link, Dir}
use Rattle.coda_fid.specs.Name.{name_cmp}
use Rattle.coda_tree.specs.Bindings.{Name}
use Rattle.coda_tree.specs.Volume.{Nodes, bindings, child, child_of}
use Rattle.coda_venus.specs.Ask.{Asked, Create, Mkdir, Symlink, Store, Setattr, Remove, Rmdir, Rename, Ending, ending, front_of}
use Rattle.coda_cell.specs.Asking.{look_ups, rename_look_ups}
use Rattle.coda_cell.specs.Held.{held_after_fetches}
use Rattle.coda_venus.specs.Held.{Held}
use Rattle.coda_cell.specs.Looking.{offered, look_on, look_along}
use Rattle.coda_venus.specs.Looking.{then_find, held, found, step_in, step_from, resolve}
use Rattle.coda_venus.specs.Accepting.{Sight, accept}
use Rattle.coda_venus.specs.declared.refused.Refused.{Refused as ClientRefused}
use Rattle.coda_cell.specs.Refusing.{client_refused_as}
use Rattle.coda_cell.specs.Refused.{Refused}
use Rattle.coda_cell.specs.Refused as refused
use Rattle.coda_cell.proofs.Fetches.{held_after_both}
use Rattle.coda_runs.specs.Performed.{Leads}
use Rattle.coda_runs.specs.Causes.{Reaches, MeetsUnheld, OnTheWay, NotBound, NoDirectory, NotHeld, BeforeLast, CreationCause, NoParent, ParentIsNoDir, RootIsThere, NameIsBound, ObjectIsHeld, NoneIsLeft, RootIsNotHeld, StoreCause, NoFile, FileIsDir, FileIsLink, RemoveCause, NoObject, ObjectIsRoot, ObjectIsDir, RmdirCause, NoDir, DirIsRoot, DirIsNone, DirIsInUse, PlaceCause, NoPlace, PlaceIsNoDir, OtherIsNotHeld, RenameCause, NoOld, NoNew, NewIsRoot, NewIsTaken, OldIsRoot, NewIsBelow}
use Rattle.coda_runs.proofs.Causes.{creation_cause, store_cause, setattr_cause, remove_cause, rmdir_cause, rename_cause, first_of_rename}
use Rattle.coda_runs.proofs.Sought.{IsSought, AreSought, still_sought, looks_along}

-- ---- where names lead

-- a name that is bound leads on
step_to : (m : Nodes) (at : Fid) (name : Name) (next : Fid) → child m at name ≡ Some next → step_from (map.get m at) at name ≡ Ok next
step_to m at name next bound = by (map.get m at) bound
  where
    in_kind : (kind : NodeKind) → map.get (bindings kind) name ≡ Some next → step_in kind name ≡ Ok next
    in_kind (File content) h = absurd (none-some next (sym (map.get-empty name_cmp name) ∙ h))
    in_kind (Link target) h = absurd (none-some next (sym (map.get-empty name_cmp name) ∙ h))
    in_kind (Dir entries) h = ap found h

    by : (o : Option Node) → child_of o name ≡ Some next → step_from o at name ≡ Ok next
    by None h = cc
    by (Some node) h = in_kind node.kind h

-- names that lead to an object resolve to it
resolve_to : (m : Nodes) (at : Fid) (names : List Name) (fid : Fid) → Leads m at names fid → resolve m at names ≡ Ok fid
resolve_to m at [] fid leads_to = by (map.get m at) leads_to.1
  where
    by : (o : Option Node) → is_some o ≡ true → held o at ≡ Ok fid
    by None h = cc
    by (Some node) h = ap (λ (f : Fid). Ok f) leads_to.0
resolve_to m at (name ∷ names) fid leads_to = ap (λ r. then_find r (λ next. resolve m next names)) (step_to m at name leads_to.0 leads_to.1) ∙ resolve_to m leads_to.0 names fid leads_to.2

-- a path's names before its last one
front_is : (front : List Name) (last : Name) → front_of (ending (front ++ last ∷ [])) ≡ front
front_is [] last = refl
front_is (name ∷ []) last = refl
front_is (name ∷ other ∷ front) last = by (ending (other ∷ front ++ last ∷ [])) (ends front other) (front_is (other ∷ front) last)
  where
    ends : (front : List Name) (other : Name) → (e : List Name × Name) × (ending (other ∷ front ++ last ∷ []) ≡ Some e)
    ends [] other = ((other ∷ [], last), refl)
    ends (next ∷ front) other = (let e = ends front next in ((other ∷ e.0.0, e.0.1), ap (option_map (λ (e : List Name × Name). (other ∷ e.0, e.1))) e.1))

    by : (o : Ending) → (e : List Name × Name) × (o ≡ Some e) → front_of o ≡ other ∷ front → front_of (option_map (λ (e : List Name × Name). (name ∷ e.0, e.1)) o) ≡ name ∷ other ∷ front
    by None e h = cc
    by (Some e) some h = ap (λ l. name ∷ l) h

module _ (offers : Option Nodes) (m : Nodes) where
  -- ---- what is met on a way

  sought_before : (at : Fid) (front more : List Name) → AreSought offers m at (front ++ more) → AreSought offers m at front
  sought_before at [] [] sought = sought
  sought_before at [] (name ∷ more) sought = sought.0
  sought_before at (name ∷ front) more sought = (sought.0, λ next is. sought_before next front more (sought.1 next is))

  reached_sought : (at : Fid) (front rest : List Name) (object : Fid) → AreSought offers m at (front ++ rest) → Reaches m at front object → IsSought offers m object
  reached_sought at [] [] object sought reaches = subst (IsSought offers m) reaches sought
  reached_sought at [] (name ∷ rest) object sought reaches = subst (IsSought offers m) reaches sought.0
  reached_sought at (name ∷ front) rest object sought reaches = reached_sought reaches.0 front rest object (sought.1 reaches.0 (step_to m at name reaches.0 reaches.1)) reaches.2

  unheld_so : (at : Fid) (names : List Name) (fid : Fid) → AreSought offers m at names → MeetsUnheld m at names fid → offered offers fid ≡ None
  unheld_so at names fid sought unheld =
      let way = unheld.way in
      reached_sought at way.front way.rest fid (subst (AreSought offers m at) way.is sought) (subst (Reaches m at way.front) unheld.object way.reaches) unheld.unheld

  pub way_so : (at : Fid) (names : List Name) (fid : Fid) (why : Refused) → AreSought offers m at names → OnTheWay m at names why → why ≡ refused.Miss fid → offered offers fid ≡ None
  way_so at names fid why sought (NotBound is meets) miss = (let no : refused.NotFound ≡ refused.Miss fid = sym is ∙ miss in cc)
  way_so at names fid why sought (NoDirectory is meets) miss = (let no : refused.NotDir ≡ refused.Miss fid = sym is ∙ miss in cc)
  way_so at names fid why sought (NotHeld other is meets) miss =
      let both : refused.Miss other ≡ refused.Miss fid = sym is ∙ miss in
      let same : other ≡ fid = cc in
      unheld_so at names fid sought (subst (MeetsUnheld m at names) same meets)

  -- the same of a path but its last name, where these names alone were looked up
  before_so : (volume : ℕ) (path : List Name) (fid : Fid) (why : Refused) → AreSought offers m (root_of volume) (front_of (ending path)) → BeforeLast m volume path why → why ≡ refused.Miss fid → offered offers fid ≡ None
  before_so volume path fid why sought before miss =
      way_so (root_of volume) before.front fid why
      (subst (AreSought offers m (root_of volume)) (ap (λ p. front_of (ending p)) before.is ∙ front_is before.front before.last) sought) before.way miss

  place_so : (volume : ℕ) (path : List Name) (fid : Fid) (why : Refused) → AreSought offers m (root_of volume) path → PlaceCause m volume path why → why ≡ refused.Miss fid → offered offers fid ≡ None
  place_so volume path fid why sought (NoPlace before) miss =
      way_so (root_of volume) before.front fid why (sought_before (root_of volume) before.front (before.last ∷ []) (subst (AreSought offers m (root_of volume)) before.is sought)) before.way miss
  place_so volume path fid why sought (PlaceIsNoDir is meets) miss = (let no : refused.NotDir ≡ refused.Miss fid = sym is ∙ miss in cc)
  place_so volume path fid why sought (OtherIsNotHeld other is meets) miss =
      let both : refused.Miss other ≡ refused.Miss fid = sym is ∙ miss in
      let same : other ≡ fid = cc in
      unheld_so (root_of volume) path fid sought (subst (MeetsUnheld m (root_of volume) path) same meets)

-- ---- what is asked

-- what an ask looks at was sought: of a creation the parent, of a rename the new path where the old one leads to an object
abbrev pub AreSoughtFor : Option Nodes → Nodes → ℕ → Asked → Type 0
AreSoughtFor offers m volume (Create path mode owner) = AreSought offers m (root_of volume) (front_of (ending path))
AreSoughtFor offers m volume (Mkdir path mode owner) = AreSought offers m (root_of volume) (front_of (ending path))
AreSoughtFor offers m volume (Symlink path target) = AreSought offers m (root_of volume) (front_of (ending path))
AreSoughtFor offers m volume (Store path content) = AreSought offers m (root_of volume) path
AreSoughtFor offers m volume (Setattr path attrs) = AreSought offers m (root_of volume) path
AreSoughtFor offers m volume (Remove path) = AreSought offers m (root_of volume) path
AreSoughtFor offers m volume (Rmdir path) = AreSought offers m (root_of volume) path
AreSoughtFor offers m volume (Rename from to) = AreSought offers m (root_of volume) from × ((fid : Fid) → Leads m (root_of volume) from fid → AreSought offers m (root_of volume) to)

module _ (offers : Option Nodes) (s : Sight) (volume : ℕ) (fid : Fid) (refusal : ClientRefused) (miss : client_refused_as refusal ≡ refused.Miss fid) where
  -- why the line is refused
  abbrev why : Refused
  why = client_refused_as refusal

  abbrev nodes : Nodes
  nodes = s.held.nodes

  creation_so : (path : List Name) → AreSought offers nodes (root_of volume) (front_of (ending path)) → CreationCause s volume path why → offered offers fid ≡ None
  creation_so path sought (NoParent before) = before_so offers nodes volume path fid why sought before miss
  creation_so path sought (ParentIsNoDir is meets) = (let no : refused.NotDir ≡ refused.Miss fid = sym is ∙ miss in cc)
  creation_so path sought (RootIsThere is root) = (let no : refused.Exists ≡ refused.Miss fid = sym is ∙ miss in cc)
  creation_so path sought (NameIsBound is bound) = (let no : refused.Exists ≡ refused.Miss fid = sym is ∙ miss in cc)
  creation_so path sought (ObjectIsHeld is there) = (let no : refused.Exists ≡ refused.Miss fid = sym is ∙ miss in cc)
  creation_so path sought (NoneIsLeft is many) = (let no : refused.JournalFull ≡ refused.Miss fid = sym is ∙ miss in cc)
  creation_so path sought (RootIsNotHeld is root none) =
      let both : refused.Miss (root_of volume) ≡ refused.Miss fid = sym is ∙ miss in
      let same : root_of volume ≡ fid = cc in
      ap (offered offers) (sym same) ∙ subst (λ names. AreSought offers nodes (root_of volume) (front_of (ending names))) root sought none

  store_so : (path : List Name) → AreSought offers nodes (root_of volume) path → StoreCause s volume path why → offered offers fid ≡ None
  store_so path sought (NoFile way) = way_so offers nodes (root_of volume) path fid why sought way miss
  store_so path sought (FileIsDir is stands) = (let no : refused.IsDir ≡ refused.Miss fid = sym is ∙ miss in cc)
  store_so path sought (FileIsLink is stands) = (let no : refused.NotFile ≡ refused.Miss fid = sym is ∙ miss in cc)

  remove_so : (path : List Name) → AreSought offers nodes (root_of volume) path → RemoveCause s volume path why → offered offers fid ≡ None
  remove_so path sought (NoObject way) = way_so offers nodes (root_of volume) path fid why sought way miss
  remove_so path sought (ObjectIsRoot is root) = (let no : refused.IsDir ≡ refused.Miss fid = sym is ∙ miss in cc)
  remove_so path sought (ObjectIsDir is stands) = (let no : refused.IsDir ≡ refused.Miss fid = sym is ∙ miss in cc)

  rmdir_so : (path : List Name) → AreSought offers nodes (root_of volume) path → RmdirCause s volume path why → offered offers fid ≡ None
  rmdir_so path sought (NoDir way) = way_so offers nodes (root_of volume) path fid why sought way miss
  rmdir_so path sought (DirIsRoot is root) = (let no : refused.Loop ≡ refused.Miss fid = sym is ∙ miss in cc)
  rmdir_so path sought (DirIsNone is stands) = (let no : refused.NotDir ≡ refused.Miss fid = sym is ∙ miss in cc)
  rmdir_so path sought (DirIsInUse is used) = (let no : refused.NotEmpty ≡ refused.Miss fid = sym is ∙ miss in cc)

  rename_so : (from to : List Name) → AreSought offers nodes (root_of volume) from → AreSought offers nodes (root_of volume) to → RenameCause s volume from to why → offered offers fid ≡ None
  rename_so from to old new (NoOld way) = way_so offers nodes (root_of volume) from fid why old way miss
  rename_so from to old new (NoNew place) = place_so offers nodes volume to fid why new place miss
  rename_so from to old new (NewIsRoot is root) = (let no : refused.Exists ≡ refused.Miss fid = sym is ∙ miss in cc)
  rename_so from to old new (NewIsTaken is taken) = (let no : refused.Exists ≡ refused.Miss fid = sym is ∙ miss in cc)
  rename_so from to old new (OldIsRoot is root) = (let no : refused.Loop ≡ refused.Miss fid = sym is ∙ miss in cc)
  rename_so from to old new (NewIsBelow is below) = (let no : refused.Loop ≡ refused.Miss fid = sym is ∙ miss in cc)

  -- where all that an ask looks at was sought, acceptance misses only what can't be fetched
  pub asked_so : (ask : Asked) → AreSoughtFor offers nodes volume ask → accept s volume ask ≡ Err refusal → offered offers fid ≡ None
  unfolding accept
  asked_so (Create path mode owner) sought h = creation_so path sought (creation_cause s volume path (ending path) _ refusal refl h)
  asked_so (Mkdir path mode owner) sought h = creation_so path sought (creation_cause s volume path (ending path) _ refusal refl h)
  asked_so (Symlink path target) sought h = creation_so path sought (creation_cause s volume path (ending path) _ refusal refl h)
  asked_so (Store path content) sought h = store_so path sought (store_cause s volume path refusal content h)
  asked_so (Setattr path attrs) sought h = way_so offers nodes (root_of volume) path fid why sought (setattr_cause s volume path refusal attrs h) miss
  asked_so (Remove path) sought h = remove_so path sought (remove_cause s volume path refusal (ending path) refl h)
  asked_so (Rmdir path) sought h = rmdir_so path sought (rmdir_cause s volume path refusal (ending path) refl h)
  asked_so (Rename from to) sought h = elim (first_of_rename s volume from to refusal (ending from) refl h) [
    | inl way ↦ way_so offers nodes (root_of volume) from fid why sought.0 way miss
    | inr leads_to ↦ rename_so from to sought.0 (sought.1 leads_to.0 leads_to.1) (rename_cause s volume from to refusal (ending from) refl h)
  ]

-- ---- look-ups

module _ (offers : Option Nodes) (h : Held) (volume : ℕ) where
  rename_looks : (from to : List Name) → AreSoughtFor offers (held_after_fetches h (rename_look_ups offers h volume from to)).nodes volume (Rename from to)
  rename_looks from to =
      let old = look_along offers h (root_of volume) from in
      let first = held_after_fetches h old in
      subst (λ (x : Held). AreSoughtFor offers x.nodes volume (Rename from to)) (sym (held_after_both h old (look_on (resolve first.nodes (root_of volume) from) (λ fid. look_along offers first (root_of volume) to))))
      (by (resolve first.nodes (root_of volume) from) refl)
    where
      by : (r : Result Fid ClientRefused) → (let first = held_after_fetches h (look_along offers h (root_of volume) from) in
          resolve first.nodes (root_of volume) from ≡ r → AreSoughtFor offers (held_after_fetches first (look_on r (λ fid. look_along offers first (root_of volume) to))).nodes volume (Rename from to))
      by (Err why) e =
          let first = held_after_fetches h (look_along offers h (root_of volume) from) in
          ((looks_along offers h (root_of volume) from).sought, λ fid leads_to. (let no : Err why ≡ Ok fid = sym e ∙ resolve_to first.nodes (root_of volume) from fid leads_to in cc))
      by (Ok fid) e =
          let first = held_after_fetches h (look_along offers h (root_of volume) from) in
          let second = looks_along offers first (root_of volume) to in
          (still_sought offers first.nodes (held_after_fetches first (look_along offers first (root_of volume) to)).nodes second.more (root_of volume) from (looks_along offers h (root_of volume) from).sought, λ other leads_to. second.sought)

  -- what an ask looks at was sought behind its look-ups
  pub looks_for : (ask : Asked) → AreSoughtFor offers (held_after_fetches h (look_ups offers h volume ask)).nodes volume ask
  looks_for (Create path mode owner) = (looks_along offers h (root_of volume) (front_of (ending path))).sought
  looks_for (Mkdir path mode owner) = (looks_along offers h (root_of volume) (front_of (ending path))).sought
  looks_for (Symlink path target) = (looks_along offers h (root_of volume) (front_of (ending path))).sought
  looks_for (Store path content) = (looks_along offers h (root_of volume) path).sought
  looks_for (Setattr path attrs) = (looks_along offers h (root_of volume) path).sought
  looks_for (Remove path) = (looks_along offers h (root_of volume) path).sought
  looks_for (Rmdir path) = (looks_along offers h (root_of volume) path).sought
  looks_for (Rename from to) = rename_looks from to
