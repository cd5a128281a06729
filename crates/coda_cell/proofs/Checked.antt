-- Acceptance goes by its checks.
use Rattle.std.proofs.Common.{◌≡◌, ℕ, Bool, true, false, if◌then◌else◌, List, [], ◌∷◌, ◌++◌, ◌==◌, ◌||◌, ◌&&◌, not, is_some, Option, Some, None, Result, Ok, Err, refl, sym, ap, ◌∙◌}
use Rattle.std.specs.FinMap as map
use Rattle.std.specs.Option.{option_or, option_and_then}
use Rattle.std.specs.Result.{result_err}
use Rattle.coda_fid.specs.Fid.{same_fid, root_of}
use Rattle.coda_fid.specs.declared.fid.Fid.{Fid}
use Rattle.coda_fid.specs.declared.fid.Sid.{Sid}
use Rattle.coda_fid.specs.declared.op.Attrs.{Attrs}
use Rattle.coda_fid.specs.declared.op.Over.{Over}
use Rattle.coda_fid.specs.declared.op.Op.{Op}
use Rattle.coda_fid.specs.declared.op.Op.TheVariants.{Rename as RenameOp}
use Rattle.coda_tree.specs.declared.node.Node.{Node}
use Rattle.coda_tree.specs.declared.node.NodeKind.{NodeKind}
use Rattle.coda_tree.specs.declared.node.NodeKind.TheVariants.{File, Link, Dir}
use Rattle.coda_tree.specs.Bindings.{Name}
use Rattle.coda_tree.specs.Volume.{Nodes, bindings, child, child_of}
use Rattle.coda_certify.specs.Checks.{is_dir, is_no_dir, is_no_file}
use Rattle.coda_venus.specs.Ask.{Asked, Create, Mkdir, Symlink, Store, Setattr, Remove, Rmdir, Rename, Ending, ending}
use Rattle.coda_venus.specs.Held.{is_below, some_below}
use Rattle.coda_venus.specs.Looking.{then_find, held, found, step_in, step_from, resolve}
use Rattle.coda_venus.specs.Accepting.{Sight, Accepted, is_used_up, next_fid, unless_used, new_fid, new_at, new_in, new_under, new_place, at_root, accept_creation, store_in, store_at, setattr_at, remove_in, remove_at, rmdir_of, rmdir_in, rmdir_at, spot, held_bound, bound_in, bound_at, place, is_dir_kind, is_dir_at, with_version, replaced_by, move_to, rename_to, rename_root, accept_rename, accept_remove, accept_rmdir, accept}
use Rattle.coda_cell.specs.Checks.{AskCheck, PresentAt, DirAt, NoDirAt, FileAt, FreeAt, BelowRoot, EmptyAt, CleanBelow, NumberLeft, NextFree, NotAbove, OtherAt, NoDirsAt, way_checks, object_checks, parent_checks, ask_checks, refused_where, object_along, node_behind, miss_of, unheld_of, kind_refused, not_found_of, exists_of, top_refused, binds_some, mentioned_below, above_of, itself_of, is_held_dir, dirs_of, dir_above, refusal_by, first_refusal, AcceptanceGoesByChecks}
use Rattle.coda_venus.specs.declared.refused.Refused.{Refused}
use Rattle.coda_venus.specs.declared.refused.Refused.TheVariants as refused
use Rattle.coda_venus.proofs.Accepted.{found_then, held_is, resolve_has, step_is, spot_is}
use Rattle.coda_cell.proofs.Unlooked.{ended, not_ended, leads_to_spot}

-- ---- first refusals

or_again : (a b c : Option Refused) → option_or a (option_or b c) ≡ option_or (option_or a b) c
or_again None b c = refl
or_again (Some why) b c = refl

or_none : (a : Option Refused) → option_or a None ≡ a
or_none None = refl
or_none (Some why) = refl

-- what a success is made of has no other refusal
err_then : {A B : Type 0} (r : Result A Refused) (see : A → B) → (let made : Result B Refused = then_find r (λ x. Ok (see x)) in result_err made) ≡ result_err r
err_then (Ok x) see = refl
err_then (Err why) see = refl

then_again : {A B C : Type 0} (r : Result A Refused) (f : A → Result B Refused) (g : B → Result C Refused) → then_find (then_find r f) g ≡ then_find r (λ x. then_find (f x) g)
then_again (Ok x) f g = refl
then_again (Err why) f g = refl

-- ---- along names

and_then_some : (o : Option Fid) → option_and_then (λ x. Some x) o ≡ o
and_then_some None = refl
and_then_some (Some x) = refl

-- one name more is one step more
object_push : (m : Nodes) (at : Fid) (names : List Name) (name : Name) → object_along m at (names ++ name ∷ []) ≡ option_and_then (λ dir. child m dir name) (object_along m at names)
object_push m at [] name = and_then_some (child m at name)
object_push m at (first ∷ names) name = by (child m at first) (λ next. object_push m next names name)
  where
    by : (o : Option Fid) → ((next : Fid) → object_along m next (names ++ name ∷ []) ≡ option_and_then (λ dir. child m dir name) (object_along m next names))
        → option_and_then (λ next. object_along m next (names ++ name ∷ [])) o ≡ option_and_then (λ dir. child m dir name) (option_and_then (λ next. object_along m next names) o)
    by None rest = refl
    by (Some next) rest = rest next

-- where names lead there is that object
resolved_at : (m : Nodes) (at : Fid) (names : List Name) (fid : Fid) → resolve m at names ≡ Ok fid → object_along m at names ≡ Some fid
resolved_at m at [] fid h = ap Some (held_is (map.get m at) at fid h).0
resolved_at m at (name ∷ names) fid h =
    let a = found_then (step_from (map.get m at) at name) (λ next. resolve m next names) fid h in
    ap (option_and_then (λ next. object_along m next names)) (step_is (map.get m at) at name a.0 a.1).1 ∙ resolved_at m a.0 names fid a.2

-- what a spot is led to by
spot_at : (m : Nodes) (volume : ℕ) (path : List Name) (e : List Name × Name) (at : Fid × Fid) → path ≡ e.0 ++ e.1 ∷ [] → spot m volume e ≡ Ok at → object_along m (root_of volume) path ≡ Some at.1
spot_at m volume path e at is h =
    let there = spot_is m volume e at h in
    ap (object_along m (root_of volume)) is ∙ object_push m (root_of volume) e.0 e.1
    ∙ ap (option_and_then (λ dir. child m dir e.1)) (resolved_at m (root_of volume) e.0 at.0 there.leads) ∙ there.bound

not_top : (path front : List Name) (name : Name) (why : Refused) → path ≡ front ++ name ∷ [] → top_refused path why ≡ None
not_top path front name why is = ap (λ p. top_refused p why) is ∙ by front
  where
    by : (front : List Name) → top_refused (front ++ name ∷ []) why ≡ None
    by [] = refl
    by (first ∷ front) = refl

module _ (s : Sight) (volume : ℕ) where
  abbrev m : Nodes
  m = s.held.nodes

  abbrev top : Fid
  top = root_of volume

  abbrev first : List AskCheck → Option Refused
  first cs = first_refusal s volume cs

  first_push : (front back : List AskCheck) → first (front ++ back) ≡ option_or (first front) (first back)
  first_push [] back = refl
  first_push (c ∷ front) back = ap (option_or (refusal_by s volume c)) (first_push front back) ∙ or_again (refusal_by s volume c) (first front) (first back)

  first_again : (a b c : List AskCheck) → first (a ++ b ++ c) ≡ first (a ++ (b ++ c))
  first_again a b c =
      first_push (a ++ b) c ∙ ap (λ o. option_or o (first c)) (first_push a b) ∙ sym (or_again (first a) (first b) (first c))
      ∙ ap (option_or (first a)) (sym (first_push b c)) ∙ sym (first_push a (b ++ c))

  -- the checks along names refuse what a look-up along them does
  way : (before names : List Name) (at : Fid) → object_along m top before ≡ Some at → first (way_checks before names) ≡ result_err (resolve m at names)
  way before [] at is = (λ i. option_or (unheld_of m (is i)) None) ∙ by (map.get m at)
    where
      by : (o : Option Node) → option_or (miss_of o at) None ≡ result_err (held o at)
      by None = refl
      by (Some node) = refl
  way before (name ∷ names) at is =
      let step : object_along m top (before ++ name ∷ []) ≡ child m at name = object_push m top before name ∙ ap (option_and_then (λ dir. child m dir name)) is in
      let rest = first (way_checks (before ++ name ∷ []) names) in
      (λ i. option_or (unheld_of m (is i)) (option_or (kind_refused is_no_dir refused.NotDir (node_behind m (is i))) (option_or (not_found_of (step i)) rest)))
      ∙ by (map.get m at) (λ next there. way (before ++ name ∷ []) names next (step ∙ there))
    where
      goes : (o : Option Fid) (rest : Option Refused) → ((next : Fid) → o ≡ Some next → rest ≡ result_err (resolve m next names)) → option_or (not_found_of o) rest ≡ result_err (then_find (found o) (λ next. resolve m next names))
      goes None rest onward = refl
      goes (Some next) rest onward = onward next refl

      in_kind : (kind : NodeKind) (rest : Option Refused) → ((next : Fid) → map.get (bindings kind) name ≡ Some next → rest ≡ result_err (resolve m next names))
          → option_or (refused_where (is_no_dir kind) refused.NotDir) (option_or (not_found_of (map.get (bindings kind) name)) rest) ≡ result_err (then_find (step_in kind name) (λ next. resolve m next names))
      in_kind (File content) rest onward = refl
      in_kind (Link target) rest onward = refl
      in_kind (Dir entries) rest onward = goes (map.get entries name) rest onward

      by : (o : Option Node) → ((next : Fid) → child_of o name ≡ Some next → first (way_checks (before ++ name ∷ []) names) ≡ result_err (resolve m next names))
          → option_or (miss_of o at) (option_or (kind_refused is_no_dir refused.NotDir o) (option_or (not_found_of (child_of o name)) (first (way_checks (before ++ name ∷ []) names))))
          ≡ result_err (then_find (step_from o at name) (λ next. resolve m next names))
      by None onward = refl
      by (Some node) onward = in_kind node.kind (first (way_checks (before ++ name ∷ []) names)) onward

  -- further checks behind those of an object
  object_then : {B : Type 0} (path : List Name) (rest : List AskCheck) (next : Fid → Result B Refused) → ((fid : Fid) → resolve m top path ≡ Ok fid → first rest ≡ result_err (next fid))
      → first (object_checks path ++ rest) ≡ result_err (then_find (resolve m top path) next)
  object_then path rest next goes = first_push (object_checks path) rest ∙ ap (λ o. option_or o (first rest)) (way [] path top refl) ∙ by (resolve m top path) refl
    where
      by : (r : Result Fid Refused) → resolve m top path ≡ r → option_or (result_err r) (first rest) ≡ result_err (then_find r next)
      by (Err why) is = refl
      by (Ok fid) is = goes fid is

  -- the same where the object is found by its directory and name
  spot_then : {B : Type 0} (path : List Name) (e : List Name × Name) → ending path ≡ Some e → (rest : List AskCheck) (next : Fid × Fid → Result B Refused)
      → ((at : Fid × Fid) → spot m volume e ≡ Ok at → first rest ≡ result_err (next at)) → first (object_checks path ++ rest) ≡ result_err (then_find (spot m volume e) next)
  spot_then path e is rest next goes =
      first_push (object_checks path) rest ∙ ap (λ o. option_or o (first rest)) (way [] path top refl ∙ ap (λ p. result_err (resolve m top p)) (ended path e is) ∙ ap result_err (leads_to_spot m volume e))
      ∙ by (spot m volume e) refl
    where
      by : (r : Result (Fid × Fid) Refused) → spot m volume e ≡ r → option_or (result_err (then_find r (λ at. Ok at.1))) (first rest) ≡ result_err (then_find r next)
      by (Err why) is = refl
      by (Ok at) is = goes at is

  -- further checks behind those of the directory of a name
  name_then : {B : Type 0} (e : List Name × Name) (rest : List AskCheck) (next : Fid → Result B Refused)
      → ((dir : Fid) → resolve m top e.0 ≡ Ok dir → option_or (kind_refused is_no_dir refused.NotDir (map.get m dir)) (first rest) ≡ result_err (next dir))
      → first (parent_checks (Some e) ++ rest) ≡ result_err (then_find (resolve m top e.0) next)
  name_then e rest next goes =
      first_push (object_checks e.0 ++ DirAt e.0 ∷ []) rest
      ∙ ap (λ o. option_or o (first rest)) (first_push (object_checks e.0) (DirAt e.0 ∷ []) ∙ ap (λ o. option_or o (first (DirAt e.0 ∷ []))) (way [] e.0 top refl))
      ∙ by (resolve m top e.0) refl
    where
      by : (r : Result Fid Refused) → resolve m top e.0 ≡ r → option_or (option_or (result_err r) (first (DirAt e.0 ∷ []))) (first rest) ≡ result_err (then_find r next)
      by (Err why) is = refl
      by (Ok dir) is =
          ap (λ o. option_or o (first rest)) (or_none (kind_refused is_no_dir refused.NotDir (node_behind m (object_along m top e.0))) ∙ ap (λ o. kind_refused is_no_dir refused.NotDir (node_behind m o)) (resolved_at m top e.0 dir is))
          ∙ goes dir is

  -- what is asked of the root
  root_then : (why : Refused) (rest : Option Refused) → option_or (miss_of (map.get m top) top) (option_or (Some why) rest) ≡ result_err (at_root s volume why)
  root_then why rest = by (map.get m top)
    where
      by : (o : Option Node) → option_or (miss_of o top) (Some why) ≡ (let r : Accepted = then_find (held o top) (λ _. Err why) in result_err r)
      by None = refl
      by (Some node) = refl

  -- ---- creations

  number : first (NumberLeft ∷ NextFree ∷ []) ≡ result_err (new_fid s volume)
  number = by (is_used_up s) (is_some (map.get m (next_fid s volume)))
    where
      by : (full used : Bool) → option_or (refused_where full refused.JournalFull) (option_or (refused_where used refused.Exists) None)
          ≡ (let r : Result Fid Refused = if full then Err refused.JournalFull else unless_used used (next_fid s volume) in result_err r)
      by true used = refl
      by false true = refl
      by false false = refl

  new_then : (path : List Name) (e : List Name × Name) → ending path ≡ Some e → (dir : Fid) → resolve m top e.0 ≡ Ok dir
      → option_or (kind_refused is_no_dir refused.NotDir (map.get m dir)) (first (FreeAt path ∷ NumberLeft ∷ NextFree ∷ [])) ≡ result_err (new_under s volume (map.get m dir) dir e.1)
  new_then path e is dir leads =
      let there : object_along m top path ≡ child m dir e.1 =
      ap (object_along m top) (ended path e is) ∙ object_push m top e.0 e.1 ∙ ap (option_and_then (λ d. child m d e.1)) (resolved_at m top e.0 dir leads) in
      ap (λ o. option_or (kind_refused is_no_dir refused.NotDir (map.get m dir)) (option_or (exists_of o) (first (NumberLeft ∷ NextFree ∷ [])))) there
      ∙ by (map.get m dir) (resolve_has m top e.0 dir leads)
    where
      free : (o : Option Fid) → option_or (exists_of o) (first (NumberLeft ∷ NextFree ∷ [])) ≡ result_err (new_at s volume o)
      free None = number
      free (Some bound) = refl

      in_kind : (kind : NodeKind) → option_or (refused_where (is_no_dir kind) refused.NotDir) (option_or (exists_of (map.get (bindings kind) e.1)) (first (NumberLeft ∷ NextFree ∷ []))) ≡ result_err (new_in s volume kind e.1)
      in_kind (File content) = refl
      in_kind (Link target) = refl
      in_kind (Dir entries) = free (map.get entries e.1)

      by : (o : Option Node) → is_some o ≡ true → option_or (kind_refused is_no_dir refused.NotDir o) (option_or (exists_of (child_of o e.1)) (first (NumberLeft ∷ NextFree ∷ []))) ≡ result_err (new_under s volume o dir e.1)
      by None away = cc
      by (Some node) there = in_kind node.kind

  creation : (path : List Name) (e : Ending) (make : Fid → Name → Fid → Op) → ending path ≡ e → first (parent_checks e ++ FreeAt path ∷ NumberLeft ∷ NextFree ∷ []) ≡ result_err (accept_creation s volume e make)
  creation path None make is =
      let nothing : path ≡ [] = not_ended path is in
      (λ i. first (PresentAt [] ∷ FreeAt (nothing i) ∷ NumberLeft ∷ NextFree ∷ [])) ∙ root_then refused.Exists (first (NumberLeft ∷ NextFree ∷ []))
  creation path (Some e) make is =
      name_then e (FreeAt path ∷ NumberLeft ∷ NextFree ∷ []) (λ dir. then_find (new_under s volume (map.get m dir) dir e.1) (λ fid. Ok (dir, fid)))
      (λ dir leads. new_then path e is dir leads ∙ sym (err_then (new_under s volume (map.get m dir) dir e.1) (λ fid. (dir, fid))))
      ∙ sym (err_then (new_place s volume e) (λ p. make p.0 e.1 p.1))

  -- ---- stores and changes of attributes

  store : (path : List Name) (content : List ℕ) → first (object_checks path ++ NoDirAt path ∷ FileAt path ∷ []) ≡ result_err (then_find (resolve m top path) (λ fid. store_at (map.get m fid) fid content))
  store path content =
      object_then path (NoDirAt path ∷ FileAt path ∷ []) (λ fid. store_at (map.get m fid) fid content)
      (λ fid leads. let there = resolved_at m top path fid leads in
      (λ i. option_or (kind_refused is_dir refused.IsDir (node_behind m (there i))) (option_or (kind_refused is_no_file refused.NotFile (node_behind m (there i))) None))
      ∙ by fid (map.get m fid) (resolve_has m top path fid leads))
    where
      in_kind : (kind : NodeKind) (fid : Fid) (pre : Sid) → option_or (refused_where (is_dir kind) refused.IsDir) (option_or (refused_where (is_no_file kind) refused.NotFile) None) ≡ result_err (store_in kind fid pre content)
      in_kind (File old) fid pre = refl
      in_kind (Link target) fid pre = refl
      in_kind (Dir entries) fid pre = refl

      by : (fid : Fid) (o : Option Node) → is_some o ≡ true → option_or (kind_refused is_dir refused.IsDir o) (option_or (kind_refused is_no_file refused.NotFile o) None) ≡ result_err (store_at o fid content)
      by fid None away = cc
      by fid (Some node) there = in_kind node.kind fid node.sid

  setattr : (path : List Name) (attrs : Attrs) → first (object_checks path) ≡ result_err (then_find (resolve m top path) (λ fid. setattr_at (map.get m fid) fid attrs))
  setattr path attrs = way [] path top refl ∙ by (resolve m top path) refl
    where
      set : (fid : Fid) (o : Option Node) → is_some o ≡ true → None ≡ result_err (setattr_at o fid attrs)
      set fid None away = cc
      set fid (Some node) there = refl

      by : (r : Result Fid Refused) → resolve m top path ≡ r → result_err r ≡ result_err (then_find r (λ fid. setattr_at (map.get m fid) fid attrs))
      by (Err why) is = refl
      by (Ok fid) is = set fid (map.get m fid) (resolve_has m top path fid is)

  -- ---- removals

  removal : (path : List Name) (e : Ending) → ending path ≡ e → first (object_checks path ++ BelowRoot path refused.IsDir ∷ NoDirAt path ∷ []) ≡ result_err (accept_remove s volume e)
  removal path None is =
      let nothing : path ≡ [] = not_ended path is in
      (λ i. first (object_checks (nothing i) ++ BelowRoot (nothing i) refused.IsDir ∷ NoDirAt (nothing i) ∷ [])) ∙ root_then refused.IsDir (first (NoDirAt [] ∷ []))
  removal path (Some e) is =
      spot_then path e is (BelowRoot path refused.IsDir ∷ NoDirAt path ∷ []) (λ at. remove_at (map.get m at.1) at.0 e.1 at.1)
      (λ at found. let there = spot_at m volume path e at (ended path e is) found in
      let below = not_top path e.0 e.1 refused.IsDir (ended path e is) in
      (λ i. option_or (below i) (option_or (kind_refused is_dir refused.IsDir (node_behind m (there i))) None)) ∙ by at (map.get m at.1) (spot_is m volume e at found).there)
    where
      in_kind : (kind : NodeKind) (at : Fid × Fid) (pre : Sid) → option_or (refused_where (is_dir kind) refused.IsDir) None ≡ result_err (remove_in kind at.0 e.1 at.1 pre)
      in_kind (File content) at pre = refl
      in_kind (Link target) at pre = refl
      in_kind (Dir entries) at pre = refl

      by : (at : Fid × Fid) (o : Option Node) → is_some o ≡ true → option_or (kind_refused is_dir refused.IsDir o) None ≡ result_err (remove_at o at.0 e.1 at.1)
      by at None away = cc
      by at (Some node) there = in_kind node.kind at node.sid

  removal_of_directory : (path : List Name) (e : Ending) → ending path ≡ e
      → first (object_checks path ++ BelowRoot path refused.Loop ∷ DirAt path ∷ EmptyAt path ∷ CleanBelow path ∷ []) ≡ result_err (accept_rmdir s volume e)
  removal_of_directory path None is =
      let nothing : path ≡ [] = not_ended path is in
      (λ i. first (object_checks (nothing i) ++ BelowRoot (nothing i) refused.Loop ∷ DirAt (nothing i) ∷ EmptyAt (nothing i) ∷ CleanBelow (nothing i) ∷ []))
      ∙ root_then refused.Loop (first (DirAt [] ∷ EmptyAt [] ∷ CleanBelow [] ∷ []))
  removal_of_directory path (Some e) is =
      spot_then path e is (BelowRoot path refused.Loop ∷ DirAt path ∷ EmptyAt path ∷ CleanBelow path ∷ []) (λ at. rmdir_at s (map.get m at.1) at.0 e.1 at.1)
      (λ at found. let there = spot_at m volume path e at (ended path e is) found in
      let below = not_top path e.0 e.1 refused.Loop (ended path e is) in
      (λ i. option_or (below i) (option_or (kind_refused is_no_dir refused.NotDir (node_behind m (there i))) (option_or (kind_refused binds_some refused.NotEmpty (node_behind m (there i))) (option_or (mentioned_below s (there i)) None))))
      ∙ by at (map.get m at.1) (spot_is m volume e at found).there)
    where
      empty : (none dirty : Bool) (at : Fid × Fid) (pre : Sid) → option_or (refused_where (not none) refused.NotEmpty) (option_or (refused_where dirty refused.NotEmpty) None) ≡ result_err (rmdir_of (none && not dirty) at.0 e.1 at.1 pre)
      empty true true at pre = refl
      empty true false at pre = refl
      empty false true at pre = refl
      empty false false at pre = refl

      in_kind : (kind : NodeKind) (at : Fid × Fid) (pre : Sid)
          → option_or (refused_where (is_no_dir kind) refused.NotDir) (option_or (refused_where (binds_some kind) refused.NotEmpty) (option_or (refused_where (some_below s.held s.is_dirty at.1) refused.NotEmpty) None))
          ≡ result_err (rmdir_in s kind at.0 e.1 at.1 pre)
      in_kind (File content) at pre = refl
      in_kind (Link target) at pre = refl
      in_kind (Dir entries) at pre = empty (map.len entries == 0) (some_below s.held s.is_dirty at.1) at pre

      by : (at : Fid × Fid) (o : Option Node) → is_some o ≡ true
          → option_or (kind_refused is_no_dir refused.NotDir o) (option_or (kind_refused binds_some refused.NotEmpty o) (option_or (refused_where (some_below s.held s.is_dirty at.1) refused.NotEmpty) None))
          ≡ result_err (rmdir_at s o at.0 e.1 at.1)
      by at None away = cc
      by at (Some node) there = in_kind node.kind at node.sid

  -- ---- renames

  -- further checks behind those of the place of a new name
  place_then : {B : Type 0} (path : List Name) (e : List Name × Name) → ending path ≡ Some e → (rest : List AskCheck) (next : Fid × Option Fid → Result B Refused)
      → ((dir : Fid) (bound : Option Fid) → resolve m top e.0 ≡ Ok dir → object_along m top path ≡ bound → unheld_of m bound ≡ None → first rest ≡ result_err (next (dir, bound)))
      → first (parent_checks (Some e) ++ PresentAt path ∷ rest) ≡ result_err (then_find (place m volume e) next)
  place_then path e is rest next goes =
      name_then e (PresentAt path ∷ rest) (λ dir. then_find (then_find (bound_at m (map.get m dir) dir e.1) (λ bound. Ok (dir, bound))) next)
      (λ dir leads. by dir leads (map.get m dir) (resolve_has m top e.0 dir leads)
      (ap (object_along m top) (ended path e is) ∙ object_push m top e.0 e.1 ∙ ap (option_and_then (λ d. child m d e.1)) (resolved_at m top e.0 dir leads)))
      ∙ ap result_err (sym (then_again (resolve m top e.0) (λ dir. then_find (bound_at m (map.get m dir) dir e.1) (λ bound. Ok (dir, bound))) next))
    where
      node_there : (dir fid : Fid) → resolve m top e.0 ≡ Ok dir → object_along m top path ≡ Some fid → (o : Option Node) → map.get m fid ≡ o
          → option_or (miss_of o fid) (first rest) ≡ result_err (then_find (then_find (then_find (held o fid) (λ there. Ok (Some there))) (λ bound. Ok (dir, bound))) next)
      node_there dir fid leads there None none = refl
      node_there dir fid leads there (Some node) some = goes dir (Some fid) leads there (ap (λ o. miss_of o fid) some)

      bound_there : (dir : Fid) → resolve m top e.0 ≡ Ok dir → (b : Option Fid) → object_along m top path ≡ b
          → option_or (unheld_of m b) (first rest) ≡ result_err (then_find (then_find (held_bound m b) (λ bound. Ok (dir, bound))) next)
      bound_there dir leads None there = goes dir None leads there refl
      bound_there dir leads (Some fid) there = node_there dir fid leads there (map.get m fid) refl

      in_kind : (dir : Fid) → resolve m top e.0 ≡ Ok dir → (kind : NodeKind) → object_along m top path ≡ map.get (bindings kind) e.1
          → option_or (refused_where (is_no_dir kind) refused.NotDir) (option_or (unheld_of m (object_along m top path)) (first rest))
          ≡ result_err (then_find (then_find (bound_in m kind e.1) (λ bound. Ok (dir, bound))) next)
      in_kind dir leads (File content) there = refl
      in_kind dir leads (Link target) there = refl
      in_kind dir leads (Dir entries) there = ap (λ o. option_or (unheld_of m o) (first rest)) there ∙ bound_there dir leads (map.get entries e.1) there

      by : (dir : Fid) → resolve m top e.0 ≡ Ok dir → (o : Option Node) → is_some o ≡ true → object_along m top path ≡ child_of o e.1
          → option_or (kind_refused is_no_dir refused.NotDir o) (option_or (unheld_of m (object_along m top path)) (first rest))
          ≡ result_err (then_find (then_find (bound_at m o dir e.1) (λ bound. Ok (dir, bound))) next)
      by dir leads None away there = cc
      by dir leads (Some node) some there = in_kind dir leads node.kind there

  is_the_dir : (o : Option Node) → is_held_dir o ≡ is_dir_at o
  is_the_dir None = refl
  is_the_dir (Some node) = by node.kind
    where
      by : (kind : NodeKind) → is_dir kind ≡ is_dir_kind kind
      by (File content) = refl
      by (Link target) = refl
      by (Dir entries) = refl

  -- what stands at the new name
  replaces : (fid : Fid) (bound : Option Fid) → unheld_of m bound ≡ None → option_or (itself_of (Some fid) bound) (option_or (dirs_of m (Some fid) bound) None) ≡ result_err (replaced_by m fid bound)
  replaces fid None none = refl
  replaces fid (Some old) none =
      (λ i. option_or (refused_where (same_fid old fid) refused.Exists) (option_or (refused_where (is_the_dir (map.get m fid) i || is_the_dir (map.get m old) i) refused.Exists) None))
      ∙ by (same_fid old fid) (is_dir_at (map.get m fid)) (is_dir_at (map.get m old))
    where
      version : (o : Option Node) → miss_of o old ≡ None → None ≡ result_err (with_version o old)
      version None away = cc
      version (Some node) there = refl

      by : (same moved bound : Bool) → option_or (refused_where same refused.Exists) (option_or (refused_where (moved || bound) refused.Exists) None)
          ≡ (let r : Result (Option Over) Refused = if same || (moved || bound) then Err refused.Exists else with_version (map.get m old) old in result_err r)
      by true moved bound = refl
      by false true bound = refl
      by false false true = refl
      by false false false = version (map.get m old) none

  move : (from to : List Name) (e d : List Name × Name) → ending from ≡ Some e → ending to ≡ Some d → (at : Fid × Fid) → spot m volume e ≡ Ok at
      → (dir : Fid) (bound : Option Fid) → resolve m top d.0 ≡ Ok dir → object_along m top to ≡ bound → unheld_of m bound ≡ None
      → first (BelowRoot from refused.Loop ∷ NotAbove from to ∷ BelowRoot to refused.Exists ∷ OtherAt from to ∷ NoDirsAt from to ∷ []) ≡ result_err (move_to s.held at.0 e.1 at.1 d.1 (dir, bound))
  move from to e d is goes at found dir bound leads there held =
      let below_from = not_top from e.0 e.1 refused.Loop (ended from e is) in
      let below_to = not_top to d.0 d.1 refused.Exists (ended to d goes) in
      let moved = spot_at m volume from e at (ended from e is) found in
      let into : dir_above s volume (ending to) ≡ Some dir = ap (dir_above s volume) goes ∙ resolved_at m top d.0 dir leads in
      (λ i. option_or (below_from i) (option_or (above_of s.held.parents (into i) (moved i)) (option_or (below_to i) (option_or (itself_of (moved i) (there i)) (option_or (dirs_of m (moved i) (there i)) None)))))
      ∙ by (is_below s.held.parents dir at.1)
    where
      by : (below : Bool) → option_or (refused_where below refused.Loop) (option_or (itself_of (Some at.1) bound) (option_or (dirs_of m (Some at.1) bound) None))
          ≡ (let r : Accepted = if below then Err refused.Loop else then_find (replaced_by m at.1 bound) (λ over. Ok (RenameOp at.0 e.1 dir d.1 at.1 over)) in result_err r)
      by true = refl
      by false = replaces at.1 bound held ∙ sym (err_then (replaced_by m at.1 bound) (λ over. RenameOp at.0 e.1 dir d.1 at.1 over))

  abbrev rename_rest : List Name → List Name → List AskCheck
  rename_rest from to = PresentAt to ∷ BelowRoot from refused.Loop ∷ NotAbove from to ∷ BelowRoot to refused.Exists ∷ OtherAt from to ∷ NoDirsAt from to ∷ []

  -- the root is looked at twice
  root_twice : (why : Refused) (rest : Option Refused) → option_or (miss_of (map.get m top) top) (option_or (miss_of (map.get m top) top) (option_or (Some why) rest)) ≡ result_err (at_root s volume why)
  root_twice why rest = by (map.get m top)
    where
      by : (o : Option Node) → option_or (miss_of o top) (option_or (miss_of o top) (Some why)) ≡ (let r : Accepted = then_find (held o top) (λ _. Err why) in result_err r)
      by None = refl
      by (Some node) = refl

  renaming_to : (from to : List Name) (e : List Name × Name) (d : Ending) → ending from ≡ Some e → ending to ≡ d → (at : Fid × Fid) → spot m volume e ≡ Ok at
      → first (parent_checks d ++ rename_rest from to) ≡ result_err (rename_to s volume at.0 e.1 at.1 d)
  renaming_to from to e None is goes at found =
      let nothing : to ≡ [] = not_ended to goes in
      (λ i. first (PresentAt [] ∷ PresentAt (nothing i) ∷ BelowRoot from refused.Loop ∷ NotAbove from (nothing i) ∷ BelowRoot (nothing i) refused.Exists ∷ OtherAt from (nothing i) ∷ NoDirsAt from (nothing i) ∷ []))
      ∙ (λ i. option_or (miss_of (map.get m top) top) (option_or (miss_of (map.get m top) top) (option_or (not_top from e.0 e.1 refused.Loop (ended from e is) i) (Some refused.Exists))))
      ∙ root_twice refused.Exists None
  renaming_to from to e (Some d) is goes at found =
      place_then to d goes (BelowRoot from refused.Loop ∷ NotAbove from to ∷ BelowRoot to refused.Exists ∷ OtherAt from to ∷ NoDirsAt from to ∷ []) (λ p. move_to s.held at.0 e.1 at.1 d.1 p)
      (λ dir bound leads there held. move from to e d is goes at found dir bound leads there held)

  renaming_root : (to : List Name) (d : Ending) → ending to ≡ d → first (parent_checks d ++ rename_rest [] to) ≡ result_err (rename_root s volume d)
  renaming_root to None goes =
      let nothing : to ≡ [] = not_ended to goes in
      (λ i. first (PresentAt [] ∷ rename_rest [] (nothing i))) ∙ root_twice refused.Loop None
  renaming_root to (Some d) goes =
      place_then to d goes (BelowRoot [] refused.Loop ∷ NotAbove [] to ∷ BelowRoot to refused.Exists ∷ OtherAt [] to ∷ NoDirsAt [] to ∷ []) (λ p. let r : Accepted = Err refused.Loop in r) (λ dir bound leads there held. refl)

  renaming : (from to : List Name) (e d : Ending) → ending from ≡ e → ending to ≡ d → first (object_checks from ++ parent_checks d ++ rename_rest from to) ≡ result_err (accept_rename s volume e d)
  renaming from to None d is goes =
      let nothing : from ≡ [] = not_ended from is in
      first_again (object_checks from) (parent_checks d) (rename_rest from to)
      ∙ (λ i. first (object_checks (nothing i) ++ (parent_checks d ++ rename_rest (nothing i) to)))
      ∙ object_then [] (parent_checks d ++ rename_rest [] to) (λ _. rename_root s volume d) (λ fid leads. renaming_root to d goes)
  renaming from to (Some e) d is goes =
      first_again (object_checks from) (parent_checks d) (rename_rest from to)
      ∙ spot_then from e is (parent_checks d ++ rename_rest from to) (λ at. rename_to s volume at.0 e.1 at.1 d) (λ at found. renaming_to from to e d is goes at found)

  -- ---- every kind

  by_checks : (ask : Asked) → first (ask_checks ask) ≡ result_err (accept s volume ask)
  unfolding accept
  by_checks (Create path mode owner) = creation path (ending path) _ refl
  by_checks (Mkdir path mode owner) = creation path (ending path) _ refl
  by_checks (Symlink path target) = creation path (ending path) _ refl
  by_checks (Store path content) = store path content
  by_checks (Setattr path attrs) = setattr path attrs
  by_checks (Remove path) = removal path (ending path) refl
  by_checks (Rmdir path) = removal_of_directory path (ending path) refl
  by_checks (Rename from to) = renaming from to (ending from) (ending to) refl refl

pub acceptance_goes_by_checks : AcceptanceGoesByChecks
acceptance_goes_by_checks s volume ask = sym (by_checks s volume ask)
