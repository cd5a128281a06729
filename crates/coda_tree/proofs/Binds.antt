-- Whether pairs bind a fid, against what stands among them.
use Rattle.std.proofs.Common.{◌≡◌, ℕ, zero, suc, ◌+◌, ◌<◌, true, false, ◌||◌, [], ◌∷◌, length, get_or, drop, Some, refl, sym, ap, ◌∙◌}
use Rattle.std.specs.Prelude.{slice_get}
use Rattle.std.specs.Global.{Vec}
use Rattle.std.proofs.lemmas.List.{drop_more}
use Rattle.std.proofs.lemmas.List.Folds.{list_any-append}
use Rattle.std.proofs.lemmas.Option.{none-some, same_Some}
use Rattle.coda_fid.specs.Fid.{same_fid}
use Rattle.coda_fid.specs.declared.fid.Fid.{Fid}
use Rattle.coda_fid.proofs.Fids.{same_fid_is, same_fid_refl}
use Rattle.coda_tree.specs.Bindings.{Name, Pairs}
use Rattle.coda_tree.specs.Pages.{Pages, all_pairs, any_binds}

-- of the pages that are left the next binds the fid, or the others do
pub binds_next : (f : Fid) (pages : Pages) (i : ℕ) (page : Vec (Name × Fid)) → i < length pages → page ≡ get_or pages i page → any_binds f (all_pairs (drop i pages)) ≡ (any_binds f page.items || any_binds f (all_pairs (drop (i + 1) pages)))
binds_next f pages i page lt is =
    ap (λ (p : Pages). any_binds f (all_pairs p)) (drop_more pages i page lt ∙ ap (λ (p : Vec (Name × Fid)). p ∷ drop (i + 1) pages) (sym is))
    ∙ list_any-append (λ (pair : Name × Fid). same_fid pair.1 f) page.items (all_pairs (drop (i + 1) pages))

-- pairs that bind the fid have one with it
pub bound_pair : (f : Fid) (pairs : Pairs) → any_binds f pairs ≡ true → (i : ℕ) × (name : Name) × (slice_get pairs i ≡ Some (name, f))
bound_pair f [] h = cc
bound_pair f (pair ∷ pairs) h = elim (same_fid pair.1 f) as (λ b. same_fid pair.1 f ≡ b → (b || any_binds f pairs) ≡ true → (i : ℕ) × (name : Name) × (slice_get (pair ∷ pairs) i ≡ Some (name, f))) [
  | true ↦ λ same _. (0, pair.0, ap (λ (g : Fid). Some (pair.0, g)) (same_fid_is pair.1 f same))
  | false ↦ λ _ later. let at = bound_pair f pairs later in (suc at.0, at.1, at.2)
] refl h

-- and pairs that have one bind it
pub pair_binds : (f : Fid) (pairs : Pairs) (i : ℕ) (name : Name) → slice_get pairs i ≡ Some (name, f) → any_binds f pairs ≡ true
pair_binds f [] i name is = absurd (none-some _ is)
pair_binds f (pair ∷ pairs) zero name is = ap (λ (p : Name × Fid). same_fid p.1 f || any_binds f pairs) (same_Some pair (name, f) is) ∙ ap (λ b. b || any_binds f pairs) (same_fid_refl f)
pair_binds f (pair ∷ pairs) (suc i) name is = elim (same_fid pair.1 f) as (λ b. (b || any_binds f pairs) ≡ true) [ true ↦ refl | false ↦ pair_binds f pairs i name is ]
