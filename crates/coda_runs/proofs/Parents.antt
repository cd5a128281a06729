-- By which parents a client holds what it held and fetched.
use Rattle.std.proofs.Common.{◌≡◌, true, Option, Some, None, refl, sym, ap, ◌∙◌, inl, inr, ◌⊎◌}
use Rattle.std.specs.Prelude.{is_some}
use Rattle.std.specs.FinMap as map
use Rattle.std.proofs.lemmas.Bool.{false≢true}
use Rattle.coda_fid.specs.declared.fid.Fid.{Fid}
use Rattle.coda_fid.proofs.Fids.{fids_total, exact_fids}
use Rattle.coda_tree.specs.declared.node.Node.{Node}
use Rattle.coda_tree.specs.Bindings.{Name}
use Rattle.coda_tree.specs.Volume.{Nodes, child, parent_of, has}
use Rattle.coda_tree.proofs.Order.{fid_cases, get_here, get_else}
use Rattle.coda_tree.proofs.Parents.{parent_sound}
use Rattle.coda_venus.specs.Held.{Held, held_after_fetch}
use Rattle.coda_cell.specs.Held.{held_after_fetches}
use Rattle.coda_cell.specs.Looking.{offered, fetch_of, looked}
use Rattle.coda_histories.proofs.Ways.{some_fid}
use Rattle.coda_cell.proofs.Fetches.{child_fetched}

-- Of what was held, each object is held by the parent that it had; and each other parent binds its object.
pub record KeepsParents (old h : Held) : Type 0 where
  pub held : (fid : Fid) → has old.nodes fid ≡ true → has h.nodes fid ≡ true
  pub own : (fid : Fid) → has old.nodes fid ≡ true → map.get h.parents fid ≡ map.get old.parents fid
  pub found : (fid p : Fid) → map.get h.parents fid ≡ Some p → (map.get old.parents fid ≡ Some p) ⊎ ((name : Name) × (child h.nodes p name ≡ Some fid))

pub keeps_own : (h : Held) → KeepsParents h h
keeps_own h = record { held = λ fid is. is; own = λ fid is. refl; found = λ fid p is. inl is }

module _ (old h : Held) (fid : Fid) (node : Node) (absent : map.get h.nodes fid ≡ None) (keeps : KeepsParents old h) where
  -- what was held is another object
  never_there : (g : Fid) → has old.nodes g ≡ true → g ≡ fid → ⊥
  never_there g is same = false≢true (sym (ap is_some (ap (map.get h.nodes) same ∙ absent)) ∙ keeps.held g is)

  still_there : (g : Fid) → has old.nodes g ≡ true → has (map.insert h.nodes fid node) g ≡ true
  still_there g is = ap is_some (get_else fids_total exact_fids h.nodes fid node g (never_there g is)) ∙ keeps.held g is

  -- a directory that binds an object still does
  still_binds : (g p : Fid) → (map.get old.parents g ≡ Some p) ⊎ ((name : Name) × (child h.nodes p name ≡ Some g))
      → (map.get old.parents g ≡ Some p) ⊎ ((name : Name) × (child (map.insert h.nodes fid node) p name ≡ Some g))
  still_binds g p at = elim at [ inl own ↦ inl own | inr bound ↦ inr (bound.0, child_fetched h.nodes fid p g node bound.0 absent bound.1) ]

  -- one fetch more, with the first directory that binds the object as its parent
  keeps_fetch : (parent : Option Fid) → parent_of h.nodes fid ≡ parent → KeepsParents old (held_after_fetch h fid parent node)
  keeps_fetch None from = record { held = still_there; own = keeps.own; found = λ g p is. still_binds g p (keeps.found g p is) }
  keeps_fetch (Some parent) from = record {
    held = still_there;
    own = λ g is. get_else fids_total exact_fids h.parents fid parent g (never_there g is) ∙ keeps.own g is;
    found = λ g p is. elim (fid_cases g fid) [
      | inl same ↦ (
          let here : Some parent ≡ Some p = sym (ap (map.get (map.insert h.parents fid parent)) same ∙ get_here fids_total h.parents fid parent) ∙ is in
          let at = parent_sound h.nodes fid parent from in
          still_binds g p (inr (at.0, ap (λ q. child h.nodes q at.0) (sym (some_fid parent p here)) ∙ at.1 ∙ ap Some (sym same))))
      | inr other ↦ still_binds g p (keeps.found g p (sym (get_else fids_total exact_fids h.parents fid parent g other) ∙ is))
    ];
  }

-- a look-up keeps the parents
pub keeps_look_parents : (old : Held) (offers : Option Nodes) (h : Held) (fid : Fid) → KeepsParents old h → KeepsParents old (looked offers h fid)
keeps_look_parents old offers h fid keeps = by (map.get h.nodes fid) (offered offers fid) refl
  where
    by : (o offer : Option Node) → map.get h.nodes fid ≡ o → KeepsParents old (held_after_fetches h (fetch_of o offer (parent_of h.nodes fid) fid))
    by (Some node) offer e = keeps
    by None (Some new) e = keeps_fetch old h fid new e keeps (parent_of h.nodes fid) refl
    by None None e = keeps
