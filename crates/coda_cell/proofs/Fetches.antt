-- What fetches leave of a client.
use Rattle.std.proofs.Common.{◌≡◌, ℕ, List, [], ◌∷◌, ◌++◌, Option, Some, None, Result, Ok, Err, refl, sym, ap, subst, ◌∙◌, inl, inr}
use Rattle.std.specs.FinMap as map
use Rattle.coda_fid.specs.Fid.{root_of}
use Rattle.coda_fid.specs.declared.fid.Fid.{Fid}
use Rattle.coda_fid.proofs.Fids.{fids_total, exact_fids}
use Rattle.coda_tree.specs.declared.node.Node.{Node}
use Rattle.coda_tree.specs.Bindings.{Name}
use Rattle.coda_tree.specs.Volume.{Nodes, child, child_of, parent_of}
use Rattle.coda_tree.proofs.Order.{fid_cases, get_else}
use Rattle.coda_plain.specs.Cell.{ClientEntry}
use Rattle.coda_venus.specs.declared.refused.Refused.{Refused}
use Rattle.coda_venus.specs.Ask.{Asked, Create, Mkdir, Symlink, Store, Setattr, Remove, Rmdir, Rename, front_of, ending}
use Rattle.coda_cell.specs.Held.{Fetch, held_after_fetches}
use Rattle.coda_venus.specs.Held.{Held, held_after_fetch}
use Rattle.coda_cell.specs.Looking.{offered, fetch_of, look, looked, look_on, look_along, entries_of}
use Rattle.coda_venus.specs.Looking.{step_from, resolve}
use Rattle.coda_cell.specs.State.{ClientState, client_after, client_after_all}
use Rattle.coda_cell.specs.Asking.{rename_look_ups, look_ups, behind_fetches}

-- entries, and others behind them
pub client_after_both : (c : ClientState) (first then_ : List ClientEntry) → client_after_all c (first ++ then_) ≡ client_after_all (client_after_all c first) then_
client_after_both c [] then_ = refl
client_after_both c (entry ∷ first) then_ = client_after_both (client_after c entry) first then_

pub held_after_both : (h : Held) (first then_ : List Fetch) → held_after_fetches h (first ++ then_) ≡ held_after_fetches (held_after_fetches h first) then_
held_after_both h [] then_ = refl
held_after_both h (fetch ∷ first) then_ = held_after_both (held_after_fetch h fetch.fid fetch.parent fetch.node) first then_

-- fetches are entries that change what is held alone
pub client_after_fetches : (c : ClientState) (fetches : List Fetch) → client_after_all c (entries_of fetches) ≡ behind_fetches c fetches
client_after_fetches c [] = refl
client_after_fetches c (fetch ∷ fetches) = client_after_fetches (record c { held = held_after_fetch c.held fetch.fid fetch.parent fetch.node }) fetches

-- what each look-up keeps, those along names keep, and those of an ask
module _ (Kept : Held → Type 0) (offers : Option Nodes) (keeps : (h : Held) (fid : Fid) → Kept h → Kept (looked offers h fid)) where
  keeps_on : (h : Held) (next : Fid → List Fetch) → Kept h → ((fid : Fid) → Kept (held_after_fetches h (next fid))) → (r : Result Fid Refused) → Kept (held_after_fetches h (look_on r next))
  keeps_on h next kept then_ (Err why) = kept
  keeps_on h next kept then_ (Ok fid) = then_ fid

  pub keeps_along : (h : Held) (at : Fid) (names : List Name) → Kept h → Kept (held_after_fetches h (look_along offers h at names))
  keeps_along h at [] kept = keeps h at kept
  keeps_along h at (name ∷ names) kept =
      subst Kept (sym (held_after_both h (look offers h at) _))
      (keeps_on (looked offers h at) (λ next. look_along offers (looked offers h at) next names) (keeps h at kept)
      (λ next. keeps_along (looked offers h at) next names (keeps h at kept)) (step_from (map.get (looked offers h at).nodes at) at name))

  keeps_rename : (h : Held) (volume : ℕ) (from to : List Name) → Kept h → Kept (held_after_fetches h (rename_look_ups offers h volume from to))
  keeps_rename h volume from to kept =
      let first = look_along offers h (root_of volume) from in
      let then_ = held_after_fetches h first in
      let along = keeps_along h (root_of volume) from kept in
      subst Kept (sym (held_after_both h first _))
      (keeps_on then_ (λ fid. look_along offers then_ (root_of volume) to) along (λ fid. keeps_along then_ (root_of volume) to along) (resolve then_.nodes (root_of volume) from))

  pub keeps_look_ups : (h : Held) (volume : ℕ) (ask : Asked) → Kept h → Kept (held_after_fetches h (look_ups offers h volume ask))
  keeps_look_ups h volume (Create path mode owner) kept = keeps_along h (root_of volume) (front_of (ending path)) kept
  keeps_look_ups h volume (Mkdir path mode owner) kept = keeps_along h (root_of volume) (front_of (ending path)) kept
  keeps_look_ups h volume (Symlink path target) kept = keeps_along h (root_of volume) (front_of (ending path)) kept
  keeps_look_ups h volume (Store path content) kept = keeps_along h (root_of volume) path kept
  keeps_look_ups h volume (Setattr path attrs) kept = keeps_along h (root_of volume) path kept
  keeps_look_ups h volume (Remove path) kept = keeps_along h (root_of volume) path kept
  keeps_look_ups h volume (Rmdir path) kept = keeps_along h (root_of volume) path kept
  keeps_look_ups h volume (Rename from to) kept = keeps_rename h volume from to kept

-- each fetch is what the look-up of its object comes to, over what those before it left
abbrev pub AreLookUps : Option Nodes → Held → List Fetch → Type 0
AreLookUps offers h [] = Unit {0}
AreLookUps offers h (fetch ∷ fetches) = (look offers h fetch.fid ≡ fetch ∷ []) × AreLookUps offers (held_after_fetch h fetch.fid fetch.parent fetch.node) fetches

module _ (offers : Option Nodes) where
  both_look_ups : (h : Held) (first rest : List Fetch) → AreLookUps offers h first → AreLookUps offers (held_after_fetches h first) rest → AreLookUps offers h (first ++ rest)
  both_look_ups h [] rest a b = b
  both_look_ups h (fetch ∷ first) rest a b = (a.0, both_look_ups (held_after_fetch h fetch.fid fetch.parent fetch.node) first rest a.1 b)

  one_looks_up : (h : Held) (fid : Fid) → AreLookUps offers h (look offers h fid)
  one_looks_up h fid = by (map.get h.nodes fid) (offered offers fid) refl refl
    where
      by : (o offer : Option Node) → map.get h.nodes fid ≡ o → offered offers fid ≡ offer → AreLookUps offers h (fetch_of o offer (parent_of h.nodes fid) fid)
      by (Some node) offer held offers_it = tt
      by None None held offers_it = tt
      by None (Some node) held offers_it = ((λ i. fetch_of (held i) (offers_it i) (parent_of h.nodes fid) fid), tt)

  on_look_up : (h : Held) (next : Fid → List Fetch) → ((fid : Fid) → AreLookUps offers h (next fid)) → (r : Result Fid Refused) → AreLookUps offers h (look_on r next)
  on_look_up h next then_ (Err why) = tt
  on_look_up h next then_ (Ok fid) = then_ fid

  pub along_looks_up : (h : Held) (at : Fid) (names : List Name) → AreLookUps offers h (look_along offers h at names)
  along_looks_up h at [] = one_looks_up h at
  along_looks_up h at (name ∷ names) =
      let next : Fid → List Fetch = λ next. look_along offers (looked offers h at) next names in
      let step = step_from (map.get (looked offers h at).nodes at) at name in
      both_look_ups h (look offers h at) (look_on step next) (one_looks_up h at) (on_look_up (looked offers h at) next (λ fid. along_looks_up (looked offers h at) fid names) step)

  rename_looks_up : (h : Held) (volume : ℕ) (from to : List Name) → AreLookUps offers h (rename_look_ups offers h volume from to)
  rename_looks_up h volume from to =
      let first = look_along offers h (root_of volume) from in
      let then_ = held_after_fetches h first in
      let next : Fid → List Fetch = λ fid. look_along offers then_ (root_of volume) to in
      let led = resolve then_.nodes (root_of volume) from in
      both_look_ups h first (look_on led next) (along_looks_up h (root_of volume) from) (on_look_up then_ next (λ fid. along_looks_up then_ (root_of volume) to) led)

  -- the look-ups of an ask
  pub ask_looks_up : (h : Held) (volume : ℕ) (ask : Asked) → AreLookUps offers h (look_ups offers h volume ask)
  ask_looks_up h volume (Create path mode owner) = along_looks_up h (root_of volume) (front_of (ending path))
  ask_looks_up h volume (Mkdir path mode owner) = along_looks_up h (root_of volume) (front_of (ending path))
  ask_looks_up h volume (Symlink path target) = along_looks_up h (root_of volume) (front_of (ending path))
  ask_looks_up h volume (Store path content) = along_looks_up h (root_of volume) path
  ask_looks_up h volume (Setattr path attrs) = along_looks_up h (root_of volume) path
  ask_looks_up h volume (Remove path) = along_looks_up h (root_of volume) path
  ask_looks_up h volume (Rmdir path) = along_looks_up h (root_of volume) path
  ask_looks_up h volume (Rename from to) = rename_looks_up h volume from to

-- what is bound is bound by an object that is held
binder_held : (m : Nodes) (dir f : Fid) (name : Name) → child m dir name ≡ Some f → map.get m dir ≡ None → ⊥
binder_held m dir f name bound none = let no : None ≡ Some f = sym (ap (λ o. child_of o name) none) ∙ bound in cc

-- a fetch of what wasn't held leaves what is bound elsewhere
pub child_fetched : (m : Nodes) (fid dir f : Fid) (node : Node) (name : Name) → map.get m fid ≡ None → child m dir name ≡ Some f → child (map.insert m fid node) dir name ≡ Some f
child_fetched m fid dir f node name new bound = elim (fid_cases dir fid) [
  | inl same ↦ absurd (binder_held m dir f name bound (ap (map.get m) same ∙ new))
  | inr other ↦ ap (λ o. child_of o name) (get_else fids_total exact_fids m fid node dir other) ∙ bound
]
