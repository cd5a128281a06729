-- What is looked up first, where a walk misses an object.
use Rattle.std.proofs.Common.{◌≡◌, ℕ, List, [], ◌∷◌, ◌++◌, Option, Some, None, Result, Ok, Err, refl, sym, ap, ◌∙◌, subst, inl, inr, ◌⊎◌}
use Rattle.std.specs.FinMap as map
use Rattle.coda_fid.specs.Fid.{root_of}
use Rattle.coda_fid.specs.declared.fid.Fid.{Fid}
use Rattle.coda_fid.proofs.Fids.{fids_total}
use Rattle.coda_tree.proofs.Order.{get_here}
use Rattle.coda_tree.specs.Bindings.{Name}
use Rattle.coda_tree.specs.Volume.{Nodes, child, parent_of}
use Rattle.coda_tree.specs.declared.node.Node.{Node}
use Rattle.coda_venus.specs.Ask.{Asked, Create, Mkdir, Symlink, Store, Setattr, Remove, Rmdir, Rename, ending, front_of}
use Rattle.coda_cell.specs.Asking.{rename_look_ups, look_ups}
use Rattle.coda_cell.specs.Held.{Fetch, held_after_fetches}
use Rattle.coda_venus.specs.Held.{Held, held_after_fetch}
use Rattle.coda_cell.specs.Looking.{offered, fetch_of, look, look_on, look_along}
use Rattle.coda_venus.specs.Looking.{then_find, step_from, resolve}
use Rattle.coda_venus.specs.declared.refused.Refused.{Refused}
use Rattle.coda_venus.specs.declared.refused.Refused.TheVariants.{Need}
use Rattle.coda_cell.proofs.Unlooked.{MissesNothing, no_look_along}
use Rattle.coda_serving.proofs.Walks.{Misses, Comes, first_or_then, held_misses, step_misses, missing_absent, missing_bound, still_held, leads_still}

-- the walk of an ask: the path of the object that it needs first, and then of the other one
abbrev pub walk : Nodes → ℕ → Asked → Result Fid Refused
walk m volume (Create path mode owner) = resolve m (root_of volume) (front_of (ending path))
walk m volume (Mkdir path mode owner) = resolve m (root_of volume) (front_of (ending path))
walk m volume (Symlink path target) = resolve m (root_of volume) (front_of (ending path))
walk m volume (Store path content) = resolve m (root_of volume) path
walk m volume (Setattr path attrs) = resolve m (root_of volume) path
walk m volume (Remove path) = resolve m (root_of volume) path
walk m volume (Rmdir path) = resolve m (root_of volume) path
walk m volume (Rename from to) = then_find (resolve m (root_of volume) from) (λ _. resolve m (root_of volume) to)

-- what is missing isn't held, and is the root or bound by what is held
pub record IsMissing (m : Nodes) (volume : ℕ) (gone : Fid) : Type 0 where
  pub absent : map.get m gone ≡ None
  pub place : (gone ≡ root_of volume) ⊎ ((dir : Fid) × (name : Name) × (child m dir name ≡ Some gone))

pub along_missing : (m : Nodes) (volume : ℕ) (names : List Name) (gone : Fid) → Misses (resolve m (root_of volume) names) gone → IsMissing m volume gone
along_missing m volume names gone e = record { absent = missing_absent m (root_of volume) names gone e; place = missing_bound m (root_of volume) names gone e }

pub walk_missing : (m : Nodes) (volume : ℕ) (ask : Asked) (gone : Fid) → Misses (walk m volume ask) gone → IsMissing m volume gone
walk_missing m volume (Create path mode owner) gone e = along_missing m volume (front_of (ending path)) gone e
walk_missing m volume (Mkdir path mode owner) gone e = along_missing m volume (front_of (ending path)) gone e
walk_missing m volume (Symlink path target) gone e = along_missing m volume (front_of (ending path)) gone e
walk_missing m volume (Store path content) gone e = along_missing m volume path gone e
walk_missing m volume (Setattr path attrs) gone e = along_missing m volume path gone e
walk_missing m volume (Remove path) gone e = along_missing m volume path gone e
walk_missing m volume (Rmdir path) gone e = along_missing m volume path gone e
walk_missing m volume (Rename from to) gone e = elim (first_or_then (resolve m (root_of volume) from) (λ _. resolve m (root_of volume) to) gone e) [
  | inl first ↦ along_missing m volume from gone first
  | inr then_ ↦ along_missing m volume to gone then_.misses
]

-- an object that is held isn't fetched
no_look : (offers : Option Nodes) (h : Held) (fid : Fid) (node : Node) → map.get h.nodes fid ≡ Some node → look offers h fid ≡ []
no_look offers h fid node is = ap (λ o. fetch_of o (offered offers fid) (parent_of h.nodes fid) fid) is

module _ (offers : Option Nodes) (h : Held) where
  -- the look-ups along names from an object that nothing is fetched for
  along_on : (at : Fid) (name : Name) (names : List Name) → look offers h at ≡ [] → look_along offers h at (name ∷ names) ≡ look_on (step_from (map.get h.nodes at) at name) (λ next. look_along offers h next names)
  along_on at name names none = λ i. none i ++ look_on (step_from (map.get (held_after_fetches h (none i)).nodes at) at name) (λ next. look_along offers (held_after_fetches h (none i)) next names)

  -- the look-ups from an object that is fetched
  along_behind : (at : Fid) (name : Name) (names : List Name) (fetches : List Fetch) → look offers h at ≡ fetches → look_along offers h at (name ∷ names)
      ≡ fetches ++ look_on (step_from (map.get (held_after_fetches h fetches).nodes at) at name) (λ next. look_along offers (held_after_fetches h fetches) next names)
  along_behind at name names fetches is = λ i. is i ++ look_on (step_from (map.get (held_after_fetches h (is i)).nodes at) at name) (λ next. look_along offers (held_after_fetches h (is i)) next names)

-- the second path of a rename is looked up alone where the first one leads to an object that is held
only : (offers : Option Nodes) (h : Held) (volume : ℕ) (from to : List Name) (fid : Fid) → resolve h.nodes (root_of volume) from ≡ Ok fid → rename_look_ups offers h volume from to ≡ look_along offers h (root_of volume) to
only offers h volume from to fid leads =
    let none : look_along offers h (root_of volume) from ≡ [] = no_look_along offers h (root_of volume) from (subst MissesNothing (sym leads) tt) in
    (λ i. none i ++ look_on (resolve (held_after_fetches h (none i)).nodes (root_of volume) from) (λ fid. look_along offers (held_after_fetches h (none i)) (root_of volume) to))
    ∙ ap (λ r. look_on r (λ _. look_along offers h (root_of volume) to)) leads

-- ---- an object that can be fetched

module _ (offers : Option Nodes) (h : Held) (gone : Fid) (node : Node) (offer : offered offers gone ≡ Some node) (absent : map.get h.nodes gone ≡ None) where
  -- its fetch, and what is held then
  abbrev pub first : Fetch
  first = record { fid = gone; parent = parent_of h.nodes gone; node = node }

  abbrev pub after : Held
  after = held_after_fetch h gone (parent_of h.nodes gone) node

  look_first : (at : Fid) → at ≡ gone → look offers h at ≡ first ∷ []
  look_first at same = ap (look offers h) same ∙ (λ i. fetch_of (absent i) (offer i) (parent_of h.nodes gone) gone)

  look_after : (at : Fid) → at ≡ gone → look offers after at ≡ []
  look_after at same = no_look offers after at node (ap (map.get after.nodes) same ∙ get_here fids_total h.nodes gone node)

  -- look-ups that miss it fetch it, and go on
  pub along_first : (at : Fid) (names : List Name) → Misses (resolve h.nodes at names) gone → look_along offers h at names ≡ first ∷ look_along offers after at names
  along_first at [] e =
      let same = (held_misses (map.get h.nodes at) at gone e).1 in
      look_first at same ∙ ap (λ l. first ∷ l) (sym (look_after at same))
  along_first at (name ∷ names) e = elim (first_or_then (step_from (map.get h.nodes at) at name) (λ next. resolve h.nodes next names) gone e) [
    | inl here ↦ (
        let same = (step_misses (map.get h.nodes at) at name gone here).1 in
        along_behind offers h at name names (first ∷ []) (look_first at same) ∙ ap (λ l. first ∷ l) (sym (along_on offers after at name names (look_after at same))))
    | inr then_ ↦ by (map.get h.nodes at) refl then_ (along_first then_.found names then_.misses)
  ]
    where
      by : (o : Option Node) → map.get h.nodes at ≡ o → (then_ : Comes (step_from (map.get h.nodes at) at name) (λ next. resolve h.nodes next names) gone)
          → look_along offers h then_.found names ≡ first ∷ look_along offers after then_.found names → look_along offers h at (name ∷ names) ≡ first ∷ look_along offers after at (name ∷ names)
      by None is then_ rest = (let no : Err (Need at) ≡ Ok then_.found = sym (ap (λ o. step_from o at name) is) ∙ then_.is in cc)
      by (Some n) is then_ rest =
          let still = still_held h.nodes gone node absent at n is in
          along_on offers h at name names (no_look offers h at n is)
          ∙ ap (λ r. look_on r (λ next. look_along offers h next names)) then_.is
          ∙ rest
          ∙ ap (λ l. first ∷ l) (sym (along_on offers after at name names (no_look offers after at n still)
          ∙ ap (λ r. look_on r (λ next. look_along offers after next names)) (ap (λ o. step_from o at name) (still ∙ sym is) ∙ then_.is)))

  rename_first : (volume : ℕ) (from to : List Name) → Misses (walk h.nodes volume (Rename from to)) gone → rename_look_ups offers h volume from to ≡ first ∷ rename_look_ups offers after volume from to
  rename_first volume from to e = elim (first_or_then (resolve h.nodes (root_of volume) from) (λ _. resolve h.nodes (root_of volume) to) gone e) [
    | inl early ↦ (
        let p = along_first (root_of volume) from early in
        λ i. p i ++ look_on (resolve (held_after_fetches h (p i)).nodes (root_of volume) from) (λ fid. look_along offers (held_after_fetches h (p i)) (root_of volume) to))
    | inr later ↦ (
        let leads = leads_still h.nodes gone node absent (root_of volume) from later.found later.is in
        only offers h volume from to later.found later.is ∙ along_first (root_of volume) to later.misses ∙ ap (λ l. first ∷ l) (sym (only offers after volume from to later.found leads)))
  ]

  -- so the look-ups of an ask
  pub look_ups_first : (volume : ℕ) (ask : Asked) → Misses (walk h.nodes volume ask) gone → look_ups offers h volume ask ≡ first ∷ look_ups offers after volume ask
  look_ups_first volume (Create path mode owner) e = along_first (root_of volume) (front_of (ending path)) e
  look_ups_first volume (Mkdir path mode owner) e = along_first (root_of volume) (front_of (ending path)) e
  look_ups_first volume (Symlink path target) e = along_first (root_of volume) (front_of (ending path)) e
  look_ups_first volume (Store path content) e = along_first (root_of volume) path e
  look_ups_first volume (Setattr path attrs) e = along_first (root_of volume) path e
  look_ups_first volume (Remove path) e = along_first (root_of volume) path e
  look_ups_first volume (Rmdir path) e = along_first (root_of volume) path e
  look_ups_first volume (Rename from to) e = rename_first volume from to e

-- ---- an object that can't be fetched

module _ (offers : Option Nodes) (h : Held) (gone : Fid) (offer : offered offers gone ≡ None) where
  look_none : (at : Fid) → at ≡ gone → map.get h.nodes at ≡ None → look offers h at ≡ []
  look_none at same absent = (λ i. fetch_of (absent i) (offered offers (same i)) (parent_of h.nodes at) at) ∙ ap (λ o. fetch_of None o (parent_of h.nodes at) at) offer

  -- look-ups that miss it fetch nothing
  pub along_none : (at : Fid) (names : List Name) → Misses (resolve h.nodes at names) gone → look_along offers h at names ≡ []
  along_none at [] e = (let is = held_misses (map.get h.nodes at) at gone e in look_none at is.1 is.0)
  along_none at (name ∷ names) e = elim (first_or_then (step_from (map.get h.nodes at) at name) (λ next. resolve h.nodes next names) gone e) [
    | inl here ↦ (
        let is = step_misses (map.get h.nodes at) at name gone here in
        along_on offers h at name names (look_none at is.1 is.0) ∙ ap (λ r. look_on r (λ next. look_along offers h next names)) here)
    | inr then_ ↦ by (map.get h.nodes at) refl then_ (along_none then_.found names then_.misses)
  ]
    where
      by : (o : Option Node) → map.get h.nodes at ≡ o → (then_ : Comes (step_from (map.get h.nodes at) at name) (λ next. resolve h.nodes next names) gone) → look_along offers h then_.found names ≡ [] → look_along offers h at (name ∷ names) ≡ []
      by None is then_ rest = (let no : Err (Need at) ≡ Ok then_.found = sym (ap (λ o. step_from o at name) is) ∙ then_.is in cc)
      by (Some n) is then_ rest = along_on offers h at name names (no_look offers h at n is) ∙ ap (λ r. look_on r (λ next. look_along offers h next names)) then_.is ∙ rest

  rename_none : (volume : ℕ) (from to : List Name) → Misses (walk h.nodes volume (Rename from to)) gone → rename_look_ups offers h volume from to ≡ []
  rename_none volume from to e = elim (first_or_then (resolve h.nodes (root_of volume) from) (λ _. resolve h.nodes (root_of volume) to) gone e) [
    | inl early ↦ (
        let p = along_none (root_of volume) from early in
        (λ i. p i ++ look_on (resolve (held_after_fetches h (p i)).nodes (root_of volume) from) (λ fid. look_along offers (held_after_fetches h (p i)) (root_of volume) to))
        ∙ ap (λ r. look_on r (λ _. look_along offers h (root_of volume) to)) early)
    | inr later ↦ only offers h volume from to later.found later.is ∙ along_none (root_of volume) to later.misses
  ]

  -- so the look-ups of an ask
  pub look_ups_none : (volume : ℕ) (ask : Asked) → Misses (walk h.nodes volume ask) gone → look_ups offers h volume ask ≡ []
  look_ups_none volume (Create path mode owner) e = along_none (root_of volume) (front_of (ending path)) e
  look_ups_none volume (Mkdir path mode owner) e = along_none (root_of volume) (front_of (ending path)) e
  look_ups_none volume (Symlink path target) e = along_none (root_of volume) (front_of (ending path)) e
  look_ups_none volume (Store path content) e = along_none (root_of volume) path e
  look_ups_none volume (Setattr path attrs) e = along_none (root_of volume) path e
  look_ups_none volume (Remove path) e = along_none (root_of volume) path e
  look_ups_none volume (Rmdir path) e = along_none (root_of volume) path e
  look_ups_none volume (Rename from to) e = rename_none volume from to e
