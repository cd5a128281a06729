-- The causes of refusals, over what a client holds.
use Rattle.std.proofs.Common.{◌≡◌, ◌≢◌, ℕ, ◌≤◌, ◌==◌, ◌||◌, ◌&&◌, not, Bool, true, false, cond, List, [], ◌∷◌, ◌++◌, append-nil, append_assoc, Option, Some, None, is_some, option_map, Result, Ok, Err, refl, sym, ap, subst, ◌∙◌, inl, inr, ◌⊎◌, arith}
use Rattle.std.specs.FinMap as map
use Rattle.std.specs.FinMap.{FinMap}
use Rattle.std.proofs.lemmas.Bool.Decides.{nat_tests}
use Rattle.coda_fid.specs.Fid.{root_of, same_fid}
use Rattle.coda_fid.specs.Name.{name_cmp}
use Rattle.coda_fid.specs.declared.fid.Fid.{Fid}
use Rattle.coda_fid.specs.declared.op.Attrs.{Attrs}
use Rattle.coda_fid.specs.declared.op.Over.{Over}
use Rattle.coda_fid.specs.declared.op.Op.{Op}
use Rattle.coda_fid.specs.declared.op.Op.TheVariants.{Rename as RenameOp}
use Rattle.coda_tree.specs.declared.node.Node.{Node}
use Rattle.coda_tree.specs.declared.node.NodeKind.{NodeKind}
use Rattle.coda_tree.specs.declared.node.NodeKind.TheVariants.{File, Link, Dir}
use Rattle.coda_tree.specs.Bindings.{Name}
use Rattle.coda_tree.specs.Volume.{Nodes, bindings, child, child_of, has, IsDir, IsDirNode, IsDirAt}
use Rattle.coda_cancel.proofs.Keys.{fid_true}
use Rattle.coda_venus.specs.declared.refused.Refused.{Refused as ClientRefused}
use Rattle.coda_venus.specs.declared.refused.Refused.TheVariants as client
use Rattle.coda_cell.specs.Refusing.{client_refused_as}
use Rattle.coda_cell.specs.Refused.{Refused}
use Rattle.coda_cell.specs.Refused as refused
use Rattle.coda_venus.specs.Ask.{Ending, ending}
use Rattle.coda_venus.specs.Held.{is_below, some_below}
use Rattle.coda_venus.specs.Looking.{then_find, held, found, step_in, step_from, resolve}
use Rattle.coda_venus.specs.Accepting.{Accepted, Sight, next_fid, is_used_up, unless_used, new_fid, new_at, new_in, new_under, new_place, at_root, accept_creation, store_in, store_at, setattr_at, remove_in, remove_at, rmdir_of, rmdir_in, rmdir_at, spot, held_bound, bound_in, bound_at, place, is_dir_kind, is_dir_at, with_version, replaced_by, move_to, rename_to, rename_root, accept_rename, accept_remove, accept_rmdir}
use Rattle.coda_venus.proofs.Accepted.{IsSpot, spot_is, step_is, place_is}
use Rattle.coda_runs.specs.Performed.{Leads}
use Rattle.coda_runs.specs.Causes.{Way, MeetsUnheld, MeetsNoDir, OnTheWay, NotBound, NoDirectory, NotHeld, BeforeLast, StandsAs, IsNoDir, IsLink, CreationCause, NoParent, ParentIsNoDir, RootIsThere, NameIsBound, ObjectIsHeld, NoneIsLeft, RootIsNotHeld, StoreCause, NoFile, FileIsDir, FileIsLink, RemoveCause, NoObject, ObjectIsRoot, ObjectIsDir, RmdirCause, NoDir, DirIsRoot, DirIsNone, DirIsInUse, PlaceCause, NoPlace, PlaceIsNoDir, OtherIsNotHeld, RenameCause, NoOld, NoNew, NewIsRoot, NewIsTaken, OldIsRoot, NewIsBelow}
use Rattle.coda_runs.proofs.Performed.{leads, ends_so, the_end, place_leads}

-- ---- what a refusal came from

pub err_is : {A : Type 0} (x y : ClientRefused) → (let err : ClientRefused → Result A ClientRefused = λ z. Err z in err x ≡ err y) → x ≡ y
err_is x y h = cc

-- the line's refusal for what a client refuses
as_is : {A : Type 0} (x y : ClientRefused) → (let err : ClientRefused → Result A ClientRefused = λ z. Err z in err x ≡ err y) → client_refused_as y ≡ client_refused_as x
as_is {A} x y e = ap client_refused_as (sym (err_is {A = A} x y e))

failed_then : {A B : Type 0} (r : Result A ClientRefused) (next : A → Result B ClientRefused) (why : ClientRefused) → then_find r next ≡ Err why → (r ≡ Err why) ⊎ ((y : A) × (r ≡ Ok y) × (next y ≡ Err why))
failed_then (Err refusal) next why h = inl (ap (λ (x : ClientRefused). Err x) (err_is refusal why h))
failed_then (Ok y) next why h = inr (y, refl, h)

never_ok : {A B : Type 0} (r : Result A ClientRefused) (make : A → B) (why : ClientRefused) → then_find r (λ x. Ok (make x)) ≡ Err why → r ≡ Err why
never_ok (Err refusal) make why h = ap (λ (x : ClientRefused). Err x) (err_is refusal why h)
never_ok (Ok y) make why h = cc

-- ---- on the way

abbrev way_here : (m : Nodes) (at : Fid) (names : List Name) → Way m at names
way_here m at names = record { front = []; rest = names; object = at; is = refl; reaches = refl }

abbrev way_on : (m : Nodes) (at next : Fid) (name : Name) (names : List Name) → child m at name ≡ Some next → Way m next names → Way m at (name ∷ names)
way_on m at next name names bound w = record { front = name ∷ w.front; rest = w.rest; object = w.object; is = ap (λ ns. name ∷ ns) w.is; reaches = (next, bound, w.reaches) }

on_the_way : (m : Nodes) (at next : Fid) (name : Name) (names : List Name) (why : Refused) → child m at name ≡ Some next → OnTheWay m next names why → OnTheWay m at (name ∷ names) why
on_the_way m at next name names why bound x = elim x [
  | NotBound is r ↦ NotBound is (record { way = way_on m at next name names bound r.way; name = r.name; rest = r.rest; follows = r.follows; dir = r.dir; free = r.free })
  | NoDirectory is r ↦ NoDirectory is (record { way = way_on m at next name names bound r.way; name = r.name; rest = r.rest; follows = r.follows; node = r.node; stands = r.stands; no_dir = r.no_dir })
  | NotHeld fid is r ↦ NotHeld fid is (record { way = way_on m at next name names bound r.way; object = r.object; unheld = r.unheld })
]

-- with more names behind
abbrev way_more : (m : Nodes) (at : Fid) (names more : List Name) → Way m at names → Way m at (names ++ more)
way_more m at names more w = record { front = w.front; rest = w.rest ++ more; object = w.object; is = ap (λ ns. ns ++ more) w.is ∙ append_assoc w.front w.rest more; reaches = w.reaches }

more_names : (m : Nodes) (at : Fid) (names more : List Name) (why : Refused) → OnTheWay m at names why → OnTheWay m at (names ++ more) why
more_names m at names more why x = elim x [
  | NotBound is r ↦ NotBound is (record { way = way_more m at names more r.way; name = r.name; rest = r.rest ++ more; follows = ap (λ ns. ns ++ more) r.follows; dir = r.dir; free = r.free })
  | NoDirectory is r ↦ NoDirectory is (record { way = way_more m at names more r.way; name = r.name; rest = r.rest ++ more; follows = ap (λ ns. ns ++ more) r.follows; node = r.node; stands = r.stands; no_dir = r.no_dir })
  | NotHeld fid is r ↦ NotHeld fid is (record { way = way_more m at names more r.way; object = r.object; unheld = r.unheld })
]

-- behind names that lead somewhere
behind_names : (m : Nodes) (at : Fid) (front : List Name) (dir : Fid) (rest : List Name) (why : Refused) → Leads m at front dir → OnTheWay m dir rest why → OnTheWay m at (front ++ rest) why
behind_names m at [] dir rest why leads_to x = subst (λ f. OnTheWay m f rest why) (sym leads_to.0) x
behind_names m at (name ∷ front) dir rest why leads_to x = on_the_way m at leads_to.0 name (front ++ rest) why leads_to.1 (behind_names m leads_to.0 front dir rest why leads_to.2 x)

unheld_here : (m : Nodes) (at : Fid) (names : List Name) → map.get m at ≡ None → MeetsUnheld m at names at
unheld_here m at names none = record { way = way_here m at names; object = refl; unheld = none }

no_dir_here : (m : Nodes) (at : Fid) (name : Name) (names : List Name) (node : Node) → map.get m at ≡ Some node → IsNoDir node.kind → MeetsNoDir m at (name ∷ names)
no_dir_here m at name names node there isnt = record { way = way_here m at (name ∷ names); name = name; rest = names; follows = refl; node = node; stands = there; no_dir = isnt }

-- a step that leads nowhere
step_cause : (m : Nodes) (at : Fid) (name : Name) (names : List Name) (why : ClientRefused) → step_from (map.get m at) at name ≡ Err why → OnTheWay m at (name ∷ names) (client_refused_as why)
step_cause m at name names why h = by_node (map.get m at) refl h
  where
    by_found : (node : Node) (entries : FinMap name_cmp Fid) → map.get m at ≡ Some node → node.kind ≡ Dir entries → (o : Option Fid) → map.get entries name ≡ o → found o ≡ Err why → OnTheWay m at (name ∷ names) (client_refused_as why)
    by_found node entries there kind None is e = NotBound (as_is client.NotFound why e)
        (record {
          way = way_here m at (name ∷ names);
          name = name;
          rest = names;
          follows = refl;
          dir = subst IsDirNode (sym there) (subst IsDir (sym kind) tt);
          free = ap (λ x. child_of x name) there ∙ ap (λ k. map.get (bindings k) name) kind ∙ is;
        })
    by_found node entries there kind (Some fid) is e = cc

    by_kind : (node : Node) (kind : NodeKind) → map.get m at ≡ Some node → node.kind ≡ kind → step_in kind name ≡ Err why → OnTheWay m at (name ∷ names) (client_refused_as why)
    by_kind node (File content) there kind e = NoDirectory (as_is client.NotDir why e) (no_dir_here m at name names node there (subst IsNoDir (sym kind) (λ isnt. isnt)))
    by_kind node (Link target) there kind e = NoDirectory (as_is client.NotDir why e) (no_dir_here m at name names node there (subst IsNoDir (sym kind) (λ isnt. isnt)))
    by_kind node (Dir entries) there kind e = by_found node entries there kind (map.get entries name) refl e

    by_node : (o : Option Node) → map.get m at ≡ o → step_from o at name ≡ Err why → OnTheWay m at (name ∷ names) (client_refused_as why)
    by_node None there e = NotHeld at (as_is (client.Need at) why e) (unheld_here m at (name ∷ names) there)
    by_node (Some node) there e = by_kind node node.kind there refl e

-- an object that isn't held
held_cause : (m : Nodes) (at : Fid) (names : List Name) (why : ClientRefused) → held (map.get m at) at ≡ Err why → OnTheWay m at names (client_refused_as why)
held_cause m at names why h = by (map.get m at) refl h
  where
    by : (o : Option Node) → map.get m at ≡ o → held o at ≡ Err why → OnTheWay m at names (client_refused_as why)
    by None there e = NotHeld at (as_is (client.Need at) why e) (unheld_here m at names there)
    by (Some node) there e = cc

pub way_cause : (m : Nodes) (at : Fid) (names : List Name) (why : ClientRefused) → resolve m at names ≡ Err why → OnTheWay m at names (client_refused_as why)
way_cause m at [] why h = held_cause m at [] why h
way_cause m at (name ∷ names) why h = elim (failed_then (step_from (map.get m at) at name) (λ next. resolve m next names) why h) [
  | inl step ↦ step_cause m at name names why step
  | inr later ↦ on_the_way m at later.0 name names (client_refused_as why) (step_is (map.get m at) at name later.0 later.1).1 (way_cause m later.0 names why later.2)
]

-- ---- where paths end

not_nothing : (n : Name) (ns : List Name) → n ∷ ns ≡ [] → ⊥
not_nothing n ns e = cc

no_names : (path : List Name) → ending path ≡ None → path ≡ []
no_names [] h = refl
no_names (name ∷ []) h = cc
no_names (name ∷ other ∷ names) h = by (ending (other ∷ names)) (no_names (other ∷ names)) h
  where
    by : (o : Ending) → (o ≡ None → other ∷ names ≡ []) → (let next : List Name × Name → List Name × Name = λ x. (name ∷ x.0, x.1) in option_map next o ≡ None → name ∷ other ∷ names ≡ [])
    by None rest e = absurd (not_nothing other names (rest refl))
    by (Some x) rest e = cc

spot_cause : (m : Nodes) (volume : ℕ) (path : List Name) (e : List Name × Name) (why : ClientRefused) → ending path ≡ Some e → spot m volume e ≡ Err why → OnTheWay m (root_of volume) path (client_refused_as why)
spot_cause m volume path e why is h =
    let root = root_of volume in
    subst (λ names. OnTheWay m root names (client_refused_as why)) (sym (ends_so path e is))
    (elim (failed_then (resolve m root e.0) (λ dir. then_find (step_from (map.get m dir) dir e.1) (λ fid. then_find (held (map.get m fid) fid) (λ there. Ok (dir, there)))) why h) [
      | inl front ↦ more_names m root e.0 (e.1 ∷ []) (client_refused_as why) (way_cause m root e.0 why front)
      | inr a ↦ elim (failed_then (step_from (map.get m a.0) a.0 e.1) (λ fid. then_find (held (map.get m fid) fid) (λ there. Ok (a.0, there))) why a.2) [
        | inl step ↦ behind_names m root e.0 a.0 (e.1 ∷ []) (client_refused_as why) (leads m root e.0 a.0 a.1) (step_cause m a.0 e.1 [] why step)
        | inr b ↦ behind_names m root e.0 a.0 (e.1 ∷ []) (client_refused_as why) (leads m root e.0 a.0 a.1)
            (on_the_way m a.0 b.0 e.1 [] (client_refused_as why) (step_is (map.get m a.0) a.0 e.1 b.0 b.1).1 (held_cause m b.0 [] why (never_ok (held (map.get m b.0) b.0) (λ there. (a.0, there)) why b.2)))
      ]
    ])

-- a spot is where its path leads
spot_leads : (m : Nodes) (volume : ℕ) (path : List Name) (e : List Name × Name) (at : Fid × Fid) → ending path ≡ Some e → IsSpot m volume e at → Leads m (root_of volume) path at.1
spot_leads m volume path e at is s = subst (λ names. Leads m (root_of volume) names at.1) (sym (ends_so path e is)) (join (root_of volume) e.0 (leads m (root_of volume) e.0 at.0 s.leads))
  where
    join : (from : Fid) (front : List Name) → Leads m from front at.0 → Leads m from (front ++ e.1 ∷ []) at.1
    join from [] l = (at.1, ap (λ f. child m f e.1) l.0 ∙ s.bound, (refl, s.there))
    join from (name ∷ front) l = (l.0, l.1, join l.0 front l.2)

-- the root, where it is looked at
root_cause : (s : Sight) (volume : ℕ) (refusal why : ClientRefused) → at_root s volume refusal ≡ Err why → ((client_refused_as why ≡ refused.Miss (root_of volume)) × (map.get s.held.nodes (root_of volume) ≡ None)) ⊎ (client_refused_as why ≡ client_refused_as refusal)
root_cause s volume refusal why h = by (map.get s.held.nodes (root_of volume)) refl h
  where
    by : (o : Option Node) → map.get s.held.nodes (root_of volume) ≡ o → (let r : Accepted = then_find (held o (root_of volume)) (λ _. Err refusal) in r ≡ Err why) → ((client_refused_as why ≡ refused.Miss (root_of volume)) × (map.get s.held.nodes (root_of volume) ≡ None)) ⊎ (client_refused_as why ≡ client_refused_as refusal)
    by None there e = inl (as_is (client.Need (root_of volume)) why e, there)
    by (Some node) there e = inr (as_is refusal why e)

root_way : (s : Sight) (volume : ℕ) (path : List Name) (why : Refused) → path ≡ [] → why ≡ refused.Miss (root_of volume) → map.get s.held.nodes (root_of volume) ≡ None → OnTheWay s.held.nodes (root_of volume) path why
root_way s volume path why is miss none = subst (λ names. OnTheWay s.held.nodes (root_of volume) names why) (sym is) (NotHeld (root_of volume) miss (unheld_here s.held.nodes (root_of volume) [] none))

no_dir_behind : (m : Nodes) (at : Fid) (front : List Name) (dir : Fid) (name : Name) (rest : List Name) (node : Node) → Leads m at front dir → map.get m dir ≡ Some node → IsNoDir node.kind → MeetsNoDir m at (front ++ name ∷ rest)
no_dir_behind m at [] dir name rest node l there isnt = subst (λ f. MeetsNoDir m f (name ∷ rest)) (sym l.0) (no_dir_here m dir name rest node there isnt)
no_dir_behind m at (n ∷ front) dir name rest node l there isnt =
    let r = no_dir_behind m l.0 front dir name rest node l.2 there isnt in
    record { way = way_on m at l.0 n (front ++ name ∷ rest) l.1 r.way; name = r.name; rest = r.rest; follows = r.follows; node = r.node; stands = r.stands; no_dir = r.no_dir }

unheld_behind : (m : Nodes) (at : Fid) (front : List Name) (dir : Fid) (rest : List Name) (fid : Fid) → Leads m at front dir → MeetsUnheld m dir rest fid → MeetsUnheld m at (front ++ rest) fid
unheld_behind m at [] dir rest fid l u = subst (λ f. MeetsUnheld m f rest fid) (sym l.0) u
unheld_behind m at (n ∷ front) dir rest fid l u = (let r = unheld_behind m l.0 front dir rest fid l.2 u in record { way = way_on m at l.0 n (front ++ rest) l.1 r.way; object = r.object; unheld = r.unheld })

-- what a directory binds and isn't held
unheld_bound : (m : Nodes) (dir : Fid) (name : Name) (fid : Fid) → child m dir name ≡ Some fid → map.get m fid ≡ None → MeetsUnheld m dir (name ∷ []) fid
unheld_bound m dir name fid bound none = record { way = way_on m dir fid name [] bound (way_here m fid []); object = refl; unheld = none }

-- what names lead to isn't held
pub unheld_at : (m : Nodes) (at : Fid) (names : List Name) (fid : Fid) (why : Refused) → Leads m at names fid → why ≡ refused.Miss fid → map.get m fid ≡ None → OnTheWay m at names why
unheld_at m at names fid why l miss none = subst (λ ns. OnTheWay m at ns why) (append-nil names) (NotHeld fid miss (unheld_behind m at names fid [] fid l (unheld_here m fid [] none)))

pub stands_as : (m : Nodes) (volume : ℕ) (path : List Name) (Kindly : NodeKind → Type 0) (fid : Fid) (node : Node) (kind : NodeKind) → Leads m (root_of volume) path fid → map.get m fid ≡ Some node → node.kind ≡ kind → Kindly kind → StandsAs m volume path Kindly
stands_as m volume path Kindly fid node kind l there is kindly = record { object = fid; leads = l; node = node; stands = there; kindly = subst Kindly (sym is) kindly }

-- ---- a new object

fid_cause : (s : Sight) (volume : ℕ) (why : ClientRefused) → new_fid s volume ≡ Err why → ((client_refused_as why ≡ refused.Exists) × (has s.held.nodes (next_fid s volume) ≡ true)) ⊎ ((client_refused_as why ≡ refused.JournalFull) × (4294967295 ≤ s.creations))
fid_cause s volume why h =
    let new = next_fid s volume in
    elim (is_used_up s) as (λ b. is_used_up s ≡ b → cond b (Err client.JournalFull) (unless_used (is_some (map.get s.held.nodes new)) new) ≡ Err why → ((client_refused_as why ≡ refused.Exists) × (has s.held.nodes new ≡ true)) ⊎ ((client_refused_as why ≡ refused.JournalFull) × (4294967295 ≤ s.creations))) [
      | true ↦ λ used e. inr (as_is client.JournalFull why e, grind (arith, nat_tests, used))
      | false ↦ λ used e. inl (by (is_some (map.get s.held.nodes new)) refl e)
    ] refl h
  where
    by : (b : Bool) → is_some (map.get s.held.nodes (next_fid s volume)) ≡ b → unless_used b (next_fid s volume) ≡ Err why → (client_refused_as why ≡ refused.Exists) × (has s.held.nodes (next_fid s volume) ≡ true)
    by true there e = (as_is client.Exists why e, there)
    by false there e = cc

module _ (s : Sight) (volume : ℕ) (path : List Name) (e : List Name × Name) (is : ending path ≡ Some e) (dir : Fid) (found_dir : resolve s.held.nodes (root_of volume) e.0 ≡ Ok dir) (why : ClientRefused) where
  abbrev m : Nodes
  m = s.held.nodes

  new_at_cause : (node : Node) (entries : FinMap name_cmp Fid) → map.get m dir ≡ Some node → node.kind ≡ Dir entries → (o : Option Fid) → map.get entries e.1 ≡ o → new_at s volume o ≡ Err why → CreationCause s volume path (client_refused_as why)
  new_at_cause node entries there kind None at h = elim (fid_cause s volume why h) [ inl used ↦ ObjectIsHeld used.0 used.1 | inr full ↦ NoneIsLeft full.0 full.1 ]
  new_at_cause node entries there kind (Some bound) at h =
      NameIsBound (as_is client.Exists why h) (record { end = the_end m volume path e dir is found_dir; other = bound; bound = ap (λ o. child_of o e.1) there ∙ ap (λ k. map.get (bindings k) e.1) kind ∙ at })

  meets_no_dir : (node : Node) → map.get m dir ≡ Some node → IsNoDir node.kind → MeetsNoDir m (root_of volume) path
  meets_no_dir node there isnt = subst (MeetsNoDir m (root_of volume)) (sym (ends_so path e is)) (no_dir_behind m (root_of volume) e.0 dir e.1 [] node (leads m (root_of volume) e.0 dir found_dir) there isnt)

  before_last : OnTheWay m (root_of volume) e.0 (client_refused_as why) → BeforeLast m volume path (client_refused_as why)
  before_last way = record { front = e.0; last = e.1; is = ends_so path e is; way = way }

  new_in_cause : (node : Node) (kind : NodeKind) → map.get m dir ≡ Some node → node.kind ≡ kind → new_in s volume kind e.1 ≡ Err why → CreationCause s volume path (client_refused_as why)
  new_in_cause node (File content) there kind h = ParentIsNoDir (as_is client.NotDir why h) (meets_no_dir node there (subst IsNoDir (sym kind) (λ isnt. isnt)))
  new_in_cause node (Link target) there kind h = ParentIsNoDir (as_is client.NotDir why h) (meets_no_dir node there (subst IsNoDir (sym kind) (λ isnt. isnt)))
  new_in_cause node (Dir entries) there kind h = new_at_cause node entries there kind (map.get entries e.1) refl h

  new_under_cause : (o : Option Node) → map.get m dir ≡ o → new_under s volume o dir e.1 ≡ Err why → CreationCause s volume path (client_refused_as why)
  new_under_cause None there h = NoParent (before_last (unheld_at m (root_of volume) e.0 dir (client_refused_as why) (leads m (root_of volume) e.0 dir found_dir) (as_is (client.Need dir) why h) there))
  new_under_cause (Some node) there h = new_in_cause node node.kind there refl h

pub creation_cause : (s : Sight) (volume : ℕ) (path : List Name) (o : Ending) (make : Fid → Name → Fid → Op) (why : ClientRefused) → ending path ≡ o → accept_creation s volume o make ≡ Err why → CreationCause s volume path (client_refused_as why)
creation_cause s volume path None make why is h = elim (root_cause s volume client.Exists why h) [
  | inl miss ↦ RootIsNotHeld miss.0 (no_names path is) miss.1
  | inr there ↦ RootIsThere there (no_names path is)
]
creation_cause s volume path (Some e) make why is h =
    let m = s.held.nodes in
    let root = root_of volume in
    let placed = never_ok (new_place s volume e) (λ (p : Fid × Fid). make p.0 e.1 p.1) why h in
    elim (failed_then (resolve m root e.0) (λ dir. then_find (new_under s volume (map.get m dir) dir e.1) (λ fid. Ok (dir, fid))) why placed) [
      | inl front ↦ NoParent (record { front = e.0; last = e.1; is = ends_so path e is; way = way_cause m root e.0 why front })
      | inr a ↦ new_under_cause s volume path e is a.0 a.1 why (map.get m a.0) refl (never_ok (new_under s volume (map.get m a.0) a.0 e.1) (λ (fid : Fid). (a.0, fid)) why a.2)
    ]

-- ---- operations on an object

module _ (s : Sight) (volume : ℕ) (path : List Name) (why : ClientRefused) where
  abbrev nodes : Nodes
  nodes = s.held.nodes

  abbrev root : Fid
  root = root_of volume

  store_in_cause : (content : List ℕ) (fid : Fid) (node : Node) (kind : NodeKind) → Leads nodes root path fid → map.get nodes fid ≡ Some node → node.kind ≡ kind → store_in kind fid node.sid content ≡ Err why → StoreCause s volume path (client_refused_as why)
  store_in_cause content fid node (File old) l there kind h = cc
  store_in_cause content fid node (Link target) l there kind h = FileIsLink (as_is client.NotFile why h) (stands_as nodes volume path IsLink fid node (Link target) l there kind tt)
  store_in_cause content fid node (Dir entries) l there kind h = FileIsDir (as_is client.IsDir why h) (stands_as nodes volume path IsDir fid node (Dir entries) l there kind tt)

  store_at_cause : (content : List ℕ) (fid : Fid) (o : Option Node) → Leads nodes root path fid → map.get nodes fid ≡ o → store_at o fid content ≡ Err why → StoreCause s volume path (client_refused_as why)
  store_at_cause content fid None l there h = NoFile (unheld_at nodes root path fid (client_refused_as why) l (as_is (client.Need fid) why h) there)
  store_at_cause content fid (Some node) l there h = store_in_cause content fid node node.kind l there refl h

  pub store_cause : (content : List ℕ) → then_find (resolve nodes root path) (λ fid. store_at (map.get nodes fid) fid content) ≡ Err why → StoreCause s volume path (client_refused_as why)
  store_cause content h = elim (failed_then (resolve nodes root path) (λ fid. store_at (map.get nodes fid) fid content) why h) [
    | inl way ↦ NoFile (way_cause nodes root path why way)
    | inr a ↦ store_at_cause content a.0 (map.get nodes a.0) (leads nodes root path a.0 a.1) refl a.2
  ]

  setattr_at_cause : (attrs : Attrs) (fid : Fid) (o : Option Node) → Leads nodes root path fid → map.get nodes fid ≡ o → setattr_at o fid attrs ≡ Err why → OnTheWay nodes root path (client_refused_as why)
  setattr_at_cause attrs fid None l there h = unheld_at nodes root path fid (client_refused_as why) l (as_is (client.Need fid) why h) there
  setattr_at_cause attrs fid (Some node) l there h = cc

  pub setattr_cause : (attrs : Attrs) → then_find (resolve nodes root path) (λ fid. setattr_at (map.get nodes fid) fid attrs) ≡ Err why → OnTheWay nodes root path (client_refused_as why)
  setattr_cause attrs h = elim (failed_then (resolve nodes root path) (λ fid. setattr_at (map.get nodes fid) fid attrs) why h) [
    | inl way ↦ way_cause nodes root path why way
    | inr a ↦ setattr_at_cause attrs a.0 (map.get nodes a.0) (leads nodes root path a.0 a.1) refl a.2
  ]

  remove_in_cause : (dir : Fid) (name : Name) (fid : Fid) (node : Node) (kind : NodeKind) → Leads nodes root path fid → map.get nodes fid ≡ Some node → node.kind ≡ kind → remove_in kind dir name fid node.sid ≡ Err why → RemoveCause s volume path (client_refused_as why)
  remove_in_cause dir name fid node (File content) l there kind h = cc
  remove_in_cause dir name fid node (Link target) l there kind h = cc
  remove_in_cause dir name fid node (Dir entries) l there kind h = ObjectIsDir (as_is client.IsDir why h) (stands_as nodes volume path IsDir fid node (Dir entries) l there kind tt)

  remove_at_cause : (dir : Fid) (name : Name) (fid : Fid) (o : Option Node) → Leads nodes root path fid → map.get nodes fid ≡ o → remove_at o dir name fid ≡ Err why → RemoveCause s volume path (client_refused_as why)
  remove_at_cause dir name fid None l there h = NoObject (unheld_at nodes root path fid (client_refused_as why) l (as_is (client.Need fid) why h) there)
  remove_at_cause dir name fid (Some node) l there h = remove_in_cause dir name fid node node.kind l there refl h

  pub remove_cause : (o : Ending) → ending path ≡ o → accept_remove s volume o ≡ Err why → RemoveCause s volume path (client_refused_as why)
  remove_cause None is h = elim (root_cause s volume client.IsDir why h) [ inl miss ↦ NoObject (root_way s volume path (client_refused_as why) (no_names path is) miss.0 miss.1) | inr dir ↦ ObjectIsRoot dir (no_names path is) ]
  remove_cause (Some e) is h = elim (failed_then (spot nodes volume e) (λ at. remove_at (map.get nodes at.1) at.0 e.1 at.1) why h) [
    | inl way ↦ NoObject (spot_cause nodes volume path e why is way)
    | inr a ↦ remove_at_cause a.0.0 e.1 a.0.1 (map.get nodes a.0.1) (spot_leads nodes volume path e a.0 is (spot_is nodes volume e a.0 a.1)) refl a.2
  ]

  rmdir_of_cause : (dir : Fid) (name : Name) (fid : Fid) (node : Node) (entries : FinMap name_cmp Fid) → Leads nodes root path fid → map.get nodes fid ≡ Some node → node.kind ≡ Dir entries → (empty below : Bool) → (map.len entries == 0) ≡ empty → some_below s.held s.is_dirty fid ≡ below
      → rmdir_of (empty && not below) dir name fid node.sid ≡ Err why → RmdirCause s volume path (client_refused_as why)
  rmdir_of_cause dir name fid node entries l there kind true true len below h = DirIsInUse (as_is client.NotEmpty why h) (record { object = fid; leads = l; in_use = inr below })
  rmdir_of_cause dir name fid node entries l there kind true false len below h = cc
  rmdir_of_cause dir name fid node entries l there kind false b len below h =
      let some : map.len entries ≢ 0 = grind (arith, nat_tests, len) in
      DirIsInUse (as_is client.NotEmpty why h) (record { object = fid; leads = l; in_use = inl (node, there, λ none. some (sym (ap (λ k. map.len (bindings k)) kind) ∙ none)) })

  rmdir_in_cause : (dir : Fid) (name : Name) (fid : Fid) (node : Node) (kind : NodeKind) → Leads nodes root path fid → map.get nodes fid ≡ Some node → node.kind ≡ kind → rmdir_in s kind dir name fid node.sid ≡ Err why → RmdirCause s volume path (client_refused_as why)
  rmdir_in_cause dir name fid node (File content) l there kind h = DirIsNone (as_is client.NotDir why h) (stands_as nodes volume path IsNoDir fid node (File content) l there kind (λ isnt. isnt))
  rmdir_in_cause dir name fid node (Link target) l there kind h = DirIsNone (as_is client.NotDir why h) (stands_as nodes volume path IsNoDir fid node (Link target) l there kind (λ isnt. isnt))
  rmdir_in_cause dir name fid node (Dir entries) l there kind h = rmdir_of_cause dir name fid node entries l there kind (map.len entries == 0) (some_below s.held s.is_dirty fid) refl refl h

  rmdir_at_cause : (dir : Fid) (name : Name) (fid : Fid) (o : Option Node) → Leads nodes root path fid → map.get nodes fid ≡ o → rmdir_at s o dir name fid ≡ Err why → RmdirCause s volume path (client_refused_as why)
  rmdir_at_cause dir name fid None l there h = NoDir (unheld_at nodes root path fid (client_refused_as why) l (as_is (client.Need fid) why h) there)
  rmdir_at_cause dir name fid (Some node) l there h = rmdir_in_cause dir name fid node node.kind l there refl h

  pub rmdir_cause : (o : Ending) → ending path ≡ o → accept_rmdir s volume o ≡ Err why → RmdirCause s volume path (client_refused_as why)
  rmdir_cause None is h = elim (root_cause s volume client.Loop why h) [ inl miss ↦ NoDir (root_way s volume path (client_refused_as why) (no_names path is) miss.0 miss.1) | inr loop ↦ DirIsRoot loop (no_names path is) ]
  rmdir_cause (Some e) is h = elim (failed_then (spot nodes volume e) (λ at. rmdir_at s (map.get nodes at.1) at.0 e.1 at.1) why h) [
    | inl way ↦ NoDir (spot_cause nodes volume path e why is way)
    | inr a ↦ rmdir_at_cause a.0.0 e.1 a.0.1 (map.get nodes a.0.1) (spot_leads nodes volume path e a.0 is (spot_is nodes volume e a.0 a.1)) refl a.2
  ]

-- ---- renames

module _ (s : Sight) (volume : ℕ) (from to : List Name) (why : ClientRefused) where
  abbrev places : Nodes
  places = s.held.nodes

  abbrev top : Fid
  top = root_of volume

  -- what is bound at the new name isn't held
  unheld_to : (t : List Name × Name) (dir f : Fid) → ending to ≡ Some t → resolve places top t.0 ≡ Ok dir → child places dir t.1 ≡ Some f → map.get places f ≡ None → MeetsUnheld places top to f
  unheld_to t dir f is found_dir bound none =
      subst (λ names. MeetsUnheld places top names f) (sym (ends_so to t is)) (unheld_behind places top t.0 dir (t.1 ∷ []) f (leads places top t.0 dir found_dir) (unheld_bound places dir t.1 f bound none))

  -- the new name's directory is none
  no_dir_to : (t : List Name × Name) (dir : Fid) (node : Node) → ending to ≡ Some t → resolve places top t.0 ≡ Ok dir → map.get places dir ≡ Some node → IsNoDir node.kind → MeetsNoDir places top to
  no_dir_to t dir node is found_dir there isnt = subst (MeetsNoDir places top) (sym (ends_so to t is)) (no_dir_behind places top t.0 dir t.1 [] node (leads places top t.0 dir found_dir) there isnt)

  placed_cause : (t : List Name × Name) (dir : Fid) → ending to ≡ Some t → resolve places top t.0 ≡ Ok dir → (node : Node) (entries : FinMap name_cmp Fid) → map.get places dir ≡ Some node → node.kind ≡ Dir entries → (o : Option Fid) → map.get entries t.1 ≡ o
      → held_bound places o ≡ Err why → PlaceCause places volume to (client_refused_as why)
  placed_cause t dir is found_dir node entries there kind None at h = cc
  placed_cause t dir is found_dir node entries there kind (Some f) at h = by (map.get places f) refl h
    where
      by : (o : Option Node) → map.get places f ≡ o → (let next : Fid → Result (Option Fid) ClientRefused = λ there. Ok (Some there) in then_find (held o f) next ≡ Err why) → PlaceCause places volume to (client_refused_as why)
      by None none e = OtherIsNotHeld f (as_is (client.Need f) why e) (unheld_to t dir f is found_dir (ap (λ o. child_of o t.1) there ∙ ap (λ k. map.get (bindings k) t.1) kind ∙ at) none)
      by (Some x) some e = cc

  bound_in_cause : (t : List Name × Name) (dir : Fid) → ending to ≡ Some t → resolve places top t.0 ≡ Ok dir → (node : Node) (kind : NodeKind) → map.get places dir ≡ Some node → node.kind ≡ kind → bound_in places kind t.1 ≡ Err why → PlaceCause places volume to (client_refused_as why)
  bound_in_cause t dir is found_dir node (File content) there kind h = PlaceIsNoDir (as_is client.NotDir why h) (no_dir_to t dir node is found_dir there (subst IsNoDir (sym kind) (λ isnt. isnt)))
  bound_in_cause t dir is found_dir node (Link target) there kind h = PlaceIsNoDir (as_is client.NotDir why h) (no_dir_to t dir node is found_dir there (subst IsNoDir (sym kind) (λ isnt. isnt)))
  bound_in_cause t dir is found_dir node (Dir entries) there kind h = placed_cause t dir is found_dir node entries there kind (map.get entries t.1) refl h

  bound_at_cause : (t : List Name × Name) (dir : Fid) → ending to ≡ Some t → resolve places top t.0 ≡ Ok dir → (o : Option Node) → map.get places dir ≡ o → bound_at places o dir t.1 ≡ Err why → PlaceCause places volume to (client_refused_as why)
  bound_at_cause t dir is found_dir None there h =
      NoPlace (record { front = t.0; last = t.1; is = ends_so to t is; way = unheld_at places top t.0 dir (client_refused_as why) (leads places top t.0 dir found_dir) (as_is (client.Need dir) why h) there })
  bound_at_cause t dir is found_dir (Some node) there h = bound_in_cause t dir is found_dir node node.kind there refl h

  place_cause : (t : List Name × Name) → ending to ≡ Some t → place places volume t ≡ Err why → PlaceCause places volume to (client_refused_as why)
  place_cause t is h = elim (failed_then (resolve places top t.0) (λ dir. then_find (bound_at places (map.get places dir) dir t.1) (λ bound. Ok (dir, bound))) why h) [
    | inl front ↦ NoPlace (record { front = t.0; last = t.1; is = ends_so to t is; way = way_cause places top t.0 why front })
    | inr a ↦ bound_at_cause t a.0 is a.1 (map.get places a.0) refl (never_ok (bound_at places (map.get places a.0) a.0 t.1) (λ (bound : Option Fid). (a.0, bound)) why a.2)
  ]

  -- what stands at the new name
  version_cause : (t : List Name × Name) (dir old : Fid) → ending to ≡ Some t → resolve places top t.0 ≡ Ok dir → child places dir t.1 ≡ Some old → (o : Option Node) → map.get places old ≡ o → with_version o old ≡ Err why → RenameCause s volume from to (client_refused_as why)
  version_cause t dir old is found_dir bound None there h = NoNew (OtherIsNotHeld old (as_is (client.Need old) why h) (unheld_to t dir old is found_dir bound there))
  version_cause t dir old is found_dir bound (Some node) there h = cc

  dir_stands : (fid : Fid) → is_dir_at (map.get places fid) ≡ true → IsDirAt places fid
  dir_stands fid h = by (map.get places fid) h
    where
      by : (o : Option Node) → is_dir_at o ≡ true → IsDirNode o
      by None e = cc
      by (Some node) e = by_kind node.kind e
        where
          by_kind : (kind : NodeKind) → is_dir_kind kind ≡ true → IsDir kind
          by_kind (File content) e = cc
          by_kind (Link target) e = cc
          by_kind (Dir entries) e = tt

  taken_cause : (t : List Name × Name) (dir fid old : Fid) → Leads places top from fid → ending to ≡ Some t → resolve places top t.0 ≡ Ok dir → child places dir t.1 ≡ Some old → (same is_dir over_dir : Bool) → same_fid old fid ≡ same → is_dir_at (map.get places fid) ≡ is_dir
      → is_dir_at (map.get places old) ≡ over_dir → cond (same || (is_dir || over_dir)) (Err client.Exists) (with_version (map.get places old) old) ≡ Err why → RenameCause s volume from to (client_refused_as why)
  taken_cause t dir fid old l is found_dir bound true b c same dir_is over_is h =
      NewIsTaken (as_is client.Exists why h) (record { object = fid; leads = l; end = the_end places volume to t dir is found_dir; other = old; bound = bound; apart = inl (fid_true old fid same) })
  taken_cause t dir fid old l is found_dir bound false true c same dir_is over_is h =
      NewIsTaken (as_is client.Exists why h) (record { object = fid; leads = l; end = the_end places volume to t dir is found_dir; other = old; bound = bound; apart = inr (inl (dir_stands fid dir_is)) })
  taken_cause t dir fid old l is found_dir bound false false true same dir_is over_is h =
      NewIsTaken (as_is client.Exists why h) (record { object = fid; leads = l; end = the_end places volume to t dir is found_dir; other = old; bound = bound; apart = inr (inr (dir_stands old over_is)) })
  taken_cause t dir fid old l is found_dir bound false false false same dir_is over_is h = version_cause t dir old is found_dir bound (map.get places old) refl h

  replaced_cause : (t : List Name × Name) (dir fid : Fid) → Leads places top from fid → ending to ≡ Some t → resolve places top t.0 ≡ Ok dir → (o : Option Fid) → child places dir t.1 ≡ o → replaced_by places fid o ≡ Err why → RenameCause s volume from to (client_refused_as why)
  replaced_cause t dir fid l is found_dir None bound h = cc
  replaced_cause t dir fid l is found_dir (Some old) bound h =
      taken_cause t dir fid old l is found_dir bound (same_fid old fid) (is_dir_at (map.get places fid)) (is_dir_at (map.get places old)) refl refl refl h

  move_cause : (from_dir : Fid) (name : Name) (fid : Fid) (t : List Name × Name) (p : Fid × Option Fid) → Leads places top from fid → ending to ≡ Some t → place places volume t ≡ Ok p → (below : Bool) → is_below s.held.parents p.0 fid ≡ below
      → cond below (Err client.Loop) (then_find (replaced_by places fid p.1) (λ over. Ok (RenameOp from_dir name p.0 t.1 fid over))) ≡ Err why → RenameCause s volume from to (client_refused_as why)
  move_cause from_dir name fid t p l is placed true below h =
      NewIsBelow (as_is client.Loop why h) (record { object = fid; leads = l; end = the_end places volume to t p.0 is (place_leads places volume t p placed); below = below })
  move_cause from_dir name fid t p l is placed false below h =
      replaced_cause t p.0 fid l is (place_leads places volume t p placed) p.1 (place_is places volume t p placed).1 (never_ok (replaced_by places fid p.1) (λ (over : Option Over). RenameOp from_dir name p.0 t.1 fid over) why h)

  rename_to_cause : (from_dir : Fid) (name : Name) (fid : Fid) (o : Ending) → Leads places top from fid → ending to ≡ o → rename_to s volume from_dir name fid o ≡ Err why → RenameCause s volume from to (client_refused_as why)
  rename_to_cause from_dir name fid None l is h = elim (root_cause s volume client.Exists why h) [
    | inl miss ↦ NoNew (OtherIsNotHeld top miss.0 (subst (λ names. MeetsUnheld places top names top) (sym (no_names to is)) (unheld_here places top [] miss.1)))
    | inr there ↦ NewIsRoot there (no_names to is)
  ]
  rename_to_cause from_dir name fid (Some t) l is h = elim (failed_then (place places volume t) (λ p. move_to s.held from_dir name fid t.1 p) why h) [
    | inl isnt ↦ NoNew (place_cause t is isnt)
    | inr a ↦ move_cause from_dir name fid t a.0 l is a.1 (is_below s.held.parents a.0.0 fid) refl a.2
  ]

  rename_root_cause : (o : Ending) → from ≡ [] → ending to ≡ o → rename_root s volume o ≡ Err why → RenameCause s volume from to (client_refused_as why)
  rename_root_cause None none is h = elim (root_cause s volume client.Loop why h) [ inl miss ↦ NoOld (root_way s volume from (client_refused_as why) none miss.0 miss.1) | inr loop ↦ OldIsRoot loop none ]
  rename_root_cause (Some t) none is h = elim (failed_then (place places volume t) (λ p. Err client.Loop) why h) [
    | inl isnt ↦ NoNew (place_cause t is isnt)
    | inr a ↦ OldIsRoot (as_is client.Loop why a.2) none
  ]

  pub rename_cause : (o : Ending) → ending from ≡ o → accept_rename s volume o (ending to) ≡ Err why → RenameCause s volume from to (client_refused_as why)
  rename_cause None is h = elim (failed_then (held (map.get places top) top) (λ _. rename_root s volume (ending to)) why h) [
    | inl isnt ↦ NoOld (subst (λ names. OnTheWay places top names (client_refused_as why)) (sym (no_names from is)) (held_cause places top [] why isnt))
    | inr a ↦ rename_root_cause (ending to) (no_names from is) refl a.2
  ]
  rename_cause (Some e) is h = elim (failed_then (spot places volume e) (λ at. rename_to s volume at.0 e.1 at.1 (ending to)) why h) [
    | inl isnt ↦ NoOld (spot_cause places volume from e why is isnt)
    | inr a ↦ rename_to_cause a.0.0 e.1 a.0.1 (ending to) (spot_leads places volume from e a.0 is (spot_is places volume e a.0 a.1)) refl a.2
  ]

  -- the first path of a rename that is refused leads nowhere, or it leads to an object
  pub first_of_rename : (o : Ending) → ending from ≡ o → accept_rename s volume o (ending to) ≡ Err why → OnTheWay places top from (client_refused_as why) ⊎ ((fid : Fid) × Leads places top from fid)
  first_of_rename None is h = elim (failed_then (held (map.get places top) top) (λ _. rename_root s volume (ending to)) why h) [
    | inl isnt ↦ inl (subst (λ names. OnTheWay places top names (client_refused_as why)) (sym (no_names from is)) (held_cause places top [] why isnt))
    | inr a ↦ inr (a.0, subst (λ names. Leads places top names a.0) (sym (no_names from is)) (leads places top [] a.0 a.1))
  ]
  first_of_rename (Some e) is h = elim (failed_then (spot places volume e) (λ at. rename_to s volume at.0 e.1 at.1 (ending to)) why h) [
    | inl isnt ↦ inl (spot_cause places volume from e why is isnt)
    | inr a ↦ inr (a.0.1, spot_leads places volume from e a.0 is (spot_is places volume e a.0 a.1))
  ]
