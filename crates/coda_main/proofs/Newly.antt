-- Look-ups fetch exactly what a client didn't hold.
use Rattle.std.proofs.Common.{◌≡◌, ◌≢◌, ℕ, Bool, true, false, not, ◌||◌, List, [], ◌∷◌, ◌++◌, Option, Some, None, is_some, Ok, Err, Result, refl, sym, ap, ◌∙◌, subst, ⊎_elim}
use Rattle.std.specs.FinMap as map
use Rattle.std.specs.List.{list_any}
use Rattle.std.proofs.lemmas.Bool.{false≢true, or_right, or_cases, or_parts}
use Rattle.std.proofs.lemmas.List.Folds.{list_any-append}
use Rattle.coda_fid.specs.Fid.{root_of, same_fid}
use Rattle.coda_fid.specs.declared.fid.Fid.{Fid}
use Rattle.coda_fid.proofs.Fids.{exact_fids, fids_total, same_fid_is, same_fid_refl}
use Rattle.coda_tree.specs.declared.node.Node.{Node}
use Rattle.coda_tree.specs.declared.node.NodeKind.{NodeKind}
use Rattle.coda_tree.specs.declared.node.NodeKind.TheVariants.{File, Link, Dir}
use Rattle.coda_tree.specs.Bindings.{Name}
use Rattle.coda_tree.specs.Volume.{Nodes, has, parent_of}
use Rattle.coda_tree.proofs.Order.{get_here, get_else}
use Rattle.coda_venus.specs.declared.refused.Refused.{Refused}
use Rattle.coda_cell.specs.State.{ClientState, client_after_all}
use Rattle.coda_cell.specs.Held.{Fetch, held_after_fetches}
use Rattle.coda_venus.specs.Held.{Held}
use Rattle.coda_cell.specs.Looking.{offered, fetch_of, look, looked, look_on, look_along, fids_of, is_fetched, entries_of}
use Rattle.coda_venus.specs.Looking.{then_find, held, step_from, resolve}
use Rattle.coda_cell.specs.Asking.{Said, read_in, list_in, shown_as, shown_at}
use Rattle.coda_main.specs.Cached.{says_fetched, CachedIsHeld}
use Rattle.coda_cell.proofs.Fetches.{held_after_both, client_after_fetches}

-- what is held behind fetches was held before, or they fetched it; and that wasn't held
abbrev FetchNew : Held → List Fetch → Type 0
FetchNew h fetches = (g : Fid) → (has (held_after_fetches h fetches).nodes g ≡ (has h.nodes g || is_fetched fetches g)) × (is_fetched fetches g ≡ true → has h.nodes g ≡ false)

or_false : (b : Bool) → b ≡ (b || false)
or_false true = refl
or_false false = refl

or_assoc : (a b c : Bool) → ((a || b) || c) ≡ (a || (b || c))
or_assoc true b c = refl
or_assoc false b c = refl

new_nil : (h : Held) → FetchNew h []
new_nil h g = (or_false (has h.nodes g), λ e. absurd (false≢true e))

new_fetched : (h : Held) (fid : Fid) (parent : Option Fid) (node : Node) → map.get h.nodes fid ≡ None → FetchNew h (record { fid = fid; parent = parent; node = node } ∷ [])
new_fetched h fid parent node none g = go (same_fid fid g) refl
  where
    go : (b : Bool) → same_fid fid g ≡ b → (has (map.insert h.nodes fid node) g ≡ (has h.nodes g || (same_fid fid g || false))) × ((same_fid fid g || false) ≡ true → has h.nodes g ≡ false)
    go true e =
        let same = same_fid_is fid g e in
        let here : has (map.insert h.nodes fid node) g ≡ true = subst (λ (f : Fid). is_some (map.get (map.insert h.nodes fid node) f) ≡ true) same (ap is_some (get_here fids_total h.nodes fid node)) in
        let found : (same_fid fid g || false) ≡ true = ap (λ b. b || false) e in
        (here ∙ sym (or_right (has h.nodes g) (same_fid fid g || false) found), λ _. subst (λ (f : Fid). is_some (map.get h.nodes f) ≡ false) same (ap is_some none))
    go false e =
        let other : g ≢ fid = λ same. false≢true (sym e ∙ subst (λ (f : Fid). same_fid fid f ≡ true) (sym same) (same_fid_refl fid)) in (
          ap is_some (get_else fids_total exact_fids h.nodes fid node g other) ∙ or_false (has h.nodes g) ∙ ap (λ b. has h.nodes g || (b || false)) (sym e),
          λ found. absurd (false≢true (sym (ap (λ b. b || false) e) ∙ found)),
        )

new_look : (offers : Option Nodes) (h : Held) (fid : Fid) → FetchNew h (look offers h fid)
new_look offers h fid = go (map.get h.nodes fid) (offered offers fid) (parent_of h.nodes fid) refl
  where
    go : (o offer : Option Node) (parent : Option Fid) → map.get h.nodes fid ≡ o → FetchNew h (fetch_of o offer parent fid)
    go (Some node) offer parent is = new_nil h
    go None (Some node) parent is = new_fetched h fid parent node is
    go None None parent is = new_nil h

fetched_both : (xs ys : List Fetch) → fids_of (xs ++ ys) ≡ fids_of xs ++ fids_of ys
fetched_both [] ys = refl
fetched_both (fetch ∷ xs) ys = ap (λ fs. fetch.fid ∷ fs) (fetched_both xs ys)

is_fetched_both : (xs ys : List Fetch) (g : Fid) → is_fetched (xs ++ ys) g ≡ (is_fetched xs g || is_fetched ys g)
is_fetched_both xs ys g = ap (list_any (λ f. same_fid f g)) (fetched_both xs ys) ∙ list_any-append (λ f. same_fid f g) (fids_of xs) (fids_of ys)

new_both : (h : Held) (xs ys : List Fetch) → FetchNew h xs → FetchNew (held_after_fetches h xs) ys → FetchNew h (xs ++ ys)
new_both h xs ys first then_ g =
    let both = is_fetched_both xs ys g in
    let before = has h.nodes g in (
      ap (λ (s : Held). has s.nodes g) (held_after_both h xs ys) ∙ (then_ g).0 ∙ ap (λ b. b || is_fetched ys g) (first g).0 ∙ or_assoc before (is_fetched xs g) (is_fetched ys g) ∙ ap (λ b. before || b) (sym both),
      λ found. ⊎_elim (λ (a : is_fetched xs g ≡ true). (first g).1 a)
          (λ (b : is_fetched ys g ≡ true). (or_parts before (is_fetched xs g) (sym (first g).0 ∙ (then_ g).1 b)).0)
          (or_cases (is_fetched xs g) (is_fetched ys g) (sym both ∙ found)),
    )

new_on : (h : Held) (r : Result Fid Refused) (next : Fid → List Fetch) → ((f : Fid) → FetchNew h (next f)) → FetchNew h (look_on r next)
new_on h (Err why) next new = new_nil h
new_on h (Ok f) next new = new f

new_along : (offers : Option Nodes) (h : Held) (at : Fid) (names : List Name) → FetchNew h (look_along offers h at names)
new_along offers h at [] = new_look offers h at
new_along offers h at (name ∷ names) =
    let mid = looked offers h at in
    new_both h (look offers h at) _ (new_look offers h at) (new_on mid (step_from (map.get mid.nodes at) at name) (λ f. look_along offers mid f names) (λ f. new_along offers mid f names))

-- where a path leads, a node is held
resolved_has : (m : Nodes) (at : Fid) (names : List Name) (fid : Fid) → resolve m at names ≡ Ok fid → has m fid ≡ true
resolved_has m at [] fid e = go (map.get m at) refl e
  where
    go : (o : Option Node) → map.get m at ≡ o → held o at ≡ Ok fid → has m fid ≡ true
    go None is e = cc
    go (Some node) is e = let same : at ≡ fid = cc in subst (λ (f : Fid). has m f ≡ true) same (ap is_some is)
resolved_has m at (name ∷ names) fid e = go (step_from (map.get m at) at name) (λ f. resolved_has m f names fid) e
  where
    go : (r : Result Fid Refused) → ((f : Fid) → resolve m f names ≡ Ok fid → has m fid ≡ true) → then_find r (λ next. resolve m next names) ≡ Ok fid → has m fid ≡ true
    go (Err why) more e = cc
    go (Ok f) more e = more f e

-- of what is held then, that is fetched which wasn't held
fetched_not_held : (before after fetched : Bool) → after ≡ (before || fetched) → (fetched ≡ true → before ≡ false) → after ≡ true → fetched ≡ not before
fetched_not_held true after true is new there = absurd (false≢true (sym (new refl)))
fetched_not_held true after false is new there = refl
fetched_not_held false after fetched is new there = sym is ∙ there

-- a way of showing tells what it is told
abbrev Tells : (Bool → NodeKind → Said) → Type 0
Tells show = (told fetched : Bool) (kind : NodeKind) → says_fetched (show told kind) ≡ Some fetched → told ≡ fetched

read_tells : Tells read_in
read_tells told fetched (File content) e = cc
read_tells told fetched (Link target) e = cc
read_tells told fetched (Dir entries) e = cc

list_tells : Tells list_in
list_tells told fetched (File content) e = cc
list_tells told fetched (Link target) e = cc
list_tells told fetched (Dir entries) e = cc

told_at : (show : Bool → NodeKind → Said) → Tells show → (fetches : List Fetch) (m : Nodes) (r : Result Fid Refused) (fetched : Bool) → says_fetched (shown_at show fetches m r) ≡ Some fetched → (fid : Fid) × (r ≡ Ok fid) × (is_fetched fetches fid ≡ fetched)
told_at show tells fetches m (Err why) fetched e = cc
told_at show tells fetches m (Ok fid) fetched e = (fid, refl, go (map.get m fid) e)
  where
    go : (o : Option Node) → says_fetched (shown_as show (is_fetched fetches fid) o fid) ≡ Some fetched → is_fetched fetches fid ≡ fetched
    go None e = cc
    go (Some node) e = tells (is_fetched fetches fid) fetched node.kind e

held_said : (show : Bool → NodeKind → Said) → Tells show → (offers : Option Nodes) (c : ClientState) (volume : ℕ) (path : List Name) (fetched : Bool)
    → (let fetches = look_along offers c.held (root_of volume) path in let after = (held_after_fetches c.held fetches).nodes in
    says_fetched (shown_at show fetches after (resolve after (root_of volume) path)) ≡ Some fetched
    → (fid : Fid) × (resolve (client_after_all c (entries_of fetches)).held.nodes (root_of volume) path ≡ Ok fid) × (fetched ≡ not (has c.held.nodes fid)))
held_said show tells offers c volume path fetched e =
    let fetches = look_along offers c.held (root_of volume) path in
    let after = (held_after_fetches c.held fetches).nodes in
    let told = told_at show tells fetches after (resolve after (root_of volume) path) fetched e in
    let new = new_along offers c.held (root_of volume) path told.0 in (
      told.0,
      ap (λ (x : ClientState). resolve x.held.nodes (root_of volume) path) (client_after_fetches c fetches) ∙ told.1,
      sym told.2 ∙ fetched_not_held (has c.held.nodes told.0) (has after told.0) (is_fetched fetches told.0) new.0 new.1 (resolved_has after (root_of volume) path told.0 told.1),
    )

pub cached_is_held : CachedIsHeld
cached_is_held = (λ offers c volume path fetched e. held_said read_in read_tells offers c volume path fetched e, λ offers c volume path fetched e. held_said list_in list_tells offers c volume path fetched e)
