-- What look-ups fetch is offered, and what is held after them was held before or is offered.
use Rattle.std.proofs.Common.{◌≡◌, ℕ, true, List, [], ◌∷◌, Option, Some, None, is_some, Result, Ok, Err, refl, sym, ap, ◌∙◌, inl, inr, ◌⊎◌}
use Rattle.std.specs.FinMap as map
use Rattle.std.proofs.lemmas.Option.{none-some}
use Rattle.coda_fid.specs.Fid.{root_of}
use Rattle.coda_fid.specs.declared.fid.Fid.{Fid}
use Rattle.coda_tree.specs.declared.node.Node.{Node}
use Rattle.coda_tree.specs.Bindings.{Name}
use Rattle.coda_tree.specs.Volume.{Nodes, has, parent_of}
use Rattle.coda_plain.specs.Histories.{In}
use Rattle.coda_plain.proofs.Lists.{in_parts}
use Rattle.coda_venus.specs.declared.refused.Refused.{Refused}
use Rattle.coda_venus.specs.Ask.{Asked, Create, Mkdir, Symlink, Store, Setattr, Remove, Rmdir, Rename, front_of, ending}
use Rattle.coda_cell.specs.Held.{Fetch, held_after_fetches}
use Rattle.coda_venus.specs.Held.{Held}
use Rattle.coda_cell.specs.Looking.{offered, fetch_of, look, looked, look_on, look_along}
use Rattle.coda_venus.specs.Looking.{step_from, resolve}
use Rattle.coda_cell.specs.Asking.{rename_look_ups, look_ups}
use Rattle.coda_cell.proofs.AfterOperations.{there_put}

-- a node that is offered at a fid
abbrev pub IsOfferedAt : Option Nodes → Fid → Node → Type 0
IsOfferedAt offers fid node = (nodes : Nodes) × (offers ≡ Some nodes) × (map.get nodes fid ≡ Some node)

-- an object that is offered
abbrev pub IsOffered : Option Nodes → Fid → Type 0
IsOffered offers fid = (nodes : Nodes) × (offers ≡ Some nodes) × (has nodes fid ≡ true)

pub offered_is : (offers : Option Nodes) (fid : Fid) (node : Node) → offered offers fid ≡ Some node → IsOfferedAt offers fid node
offered_is None fid node h = absurd (none-some node h)
offered_is (Some nodes) fid node h = (nodes, refl, h)

pub offered_look : (offers : Option Nodes) (h : Held) (fid : Fid) (fetch : Fetch) → In fetch (look offers h fid) → IsOfferedAt offers fetch.fid fetch.node
offered_look offers h fid fetch i = by (map.get h.nodes fid) (offered offers fid) refl i
  where
    by : (o offer : Option Node) → offered offers fid ≡ offer → In fetch (fetch_of o offer (parent_of h.nodes fid) fid) → IsOfferedAt offers fetch.fid fetch.node
    by (Some node) offer e none = absurd none
    by None None e none = absurd none
    by None (Some node) e (inl same) = (
        let at = offered_is offers fid node e in
        (at.0, at.1, (λ j. map.get at.0 (same j).fid) ∙ at.2 ∙ sym (ap (λ (f : Fetch). Some f.node) same)))
    by None (Some node) e (inr none) = absurd none

offered_on : (offers : Option Nodes) (next : Fid → List Fetch) (fetch : Fetch) → ((fid : Fid) → In fetch (next fid) → IsOfferedAt offers fetch.fid fetch.node) → (r : Result Fid Refused) → In fetch (look_on r next) → IsOfferedAt offers fetch.fid fetch.node
offered_on offers next fetch then_ (Err why) none = absurd none
offered_on offers next fetch then_ (Ok fid) i = then_ fid i

-- what look-ups along names fetch is offered
pub fetched_along_is_offered : (offers : Option Nodes) (h : Held) (at : Fid) (names : List Name) (fetch : Fetch) → In fetch (look_along offers h at names)
    → (nodes : Nodes) × (offers ≡ Some nodes) × (map.get nodes fetch.fid ≡ Some fetch.node)
fetched_along_is_offered offers h at [] fetch i = offered_look offers h at fetch i
fetched_along_is_offered offers h at (name ∷ names) fetch i =
    let next : Fid → List Fetch = λ next. look_along offers (looked offers h at) next names in
    let step = step_from (map.get (looked offers h at).nodes at) at name in
    elim (in_parts fetch (look offers h at) (look_on step next) i) [
      | inl first ↦ offered_look offers h at fetch first
      | inr later ↦ offered_on offers next fetch (λ fid. fetched_along_is_offered offers (looked offers h at) fid names fetch) step later
    ]

offered_rename : (offers : Option Nodes) (h : Held) (volume : ℕ) (from to : List Name) (fetch : Fetch) → In fetch (rename_look_ups offers h volume from to) → IsOfferedAt offers fetch.fid fetch.node
offered_rename offers h volume from to fetch i =
    let first = look_along offers h (root_of volume) from in
    let then_ = held_after_fetches h first in
    let next : Fid → List Fetch = λ fid. look_along offers then_ (root_of volume) to in
    elim (in_parts fetch first (look_on (resolve then_.nodes (root_of volume) from) next) i) [
      | inl early ↦ fetched_along_is_offered offers h (root_of volume) from fetch early
      | inr later ↦ offered_on offers next fetch (λ fid. fetched_along_is_offered offers then_ (root_of volume) to fetch) (resolve then_.nodes (root_of volume) from) later
    ]

-- what the look-ups of an ask fetch is offered
pub fetched_is_offered : (offers : Option Nodes) (h : Held) (volume : ℕ) (ask : Asked) (fetch : Fetch) → In fetch (look_ups offers h volume ask)
    → (nodes : Nodes) × (offers ≡ Some nodes) × (map.get nodes fetch.fid ≡ Some fetch.node)
fetched_is_offered offers h volume (Create path mode owner) fetch i = fetched_along_is_offered offers h (root_of volume) (front_of (ending path)) fetch i
fetched_is_offered offers h volume (Mkdir path mode owner) fetch i = fetched_along_is_offered offers h (root_of volume) (front_of (ending path)) fetch i
fetched_is_offered offers h volume (Symlink path target) fetch i = fetched_along_is_offered offers h (root_of volume) (front_of (ending path)) fetch i
fetched_is_offered offers h volume (Store path content) fetch i = fetched_along_is_offered offers h (root_of volume) path fetch i
fetched_is_offered offers h volume (Setattr path attrs) fetch i = fetched_along_is_offered offers h (root_of volume) path fetch i
fetched_is_offered offers h volume (Remove path) fetch i = fetched_along_is_offered offers h (root_of volume) path fetch i
fetched_is_offered offers h volume (Rmdir path) fetch i = fetched_along_is_offered offers h (root_of volume) path fetch i
fetched_is_offered offers h volume (Rename from to) fetch i = offered_rename offers h volume from to fetch i

-- if an object is held, it was held before, or is offered
abbrev pub WasHeld : Option Nodes → Held → Fid → Held → Type 0
WasHeld offers before f h = has h.nodes f ≡ true → (has before.nodes f ≡ true) ⊎ IsOffered offers f

pub held_look : (offers : Option Nodes) (before : Held) (f : Fid) (h : Held) (fid : Fid) → WasHeld offers before f h → WasHeld offers before f (looked offers h fid)
held_look offers before f h fid was = by (map.get h.nodes fid) (offered offers fid) refl
  where
    by : (o offer : Option Node) → offered offers fid ≡ offer → WasHeld offers before f (held_after_fetches h (fetch_of o offer (parent_of h.nodes fid) fid))
    by (Some node) offer e = was
    by None None e = was
    by None (Some node) e = λ is. elim (there_put h.nodes fid node f is) [
      | inl old ↦ was old
      | inr same ↦ (let at = offered_is offers fid node e in inr (at.0, at.1, ap (has at.0) same ∙ ap is_some at.2))
    ]
