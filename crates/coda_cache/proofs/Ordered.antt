-- What a list of entries, of which one is found by comparing, keeps as a finite map, and what a change of the entries makes of it.
use Rattle.std.proofs.Common.{◌≡◌, ◌≢◌, cond, List, [], ◌∷◌, Option, Some, refl, sym, ap, ◌∙◌, inl, inr}
use Rattle.std.specs.Ordering.{is_eq}
use Rattle.std.specs.Map.{lookup}
use Rattle.std.specs.BTreeMap.{is_at}
use Rattle.std.specs.FinMap as map
use Rattle.std.specs.FinMap.{find}
use Rattle.coda_fid.specs.Fid.{fid_cmp}
use Rattle.coda_fid.specs.declared.fid.Fid.{Fid}
use Rattle.coda_fid.proofs.Fids.{fids_total, exact_fids}
use Rattle.coda_tree.specs.Slots.{keyed}
use Rattle.coda_tree.proofs.Order.{fid_cases, get_here, get_else, at_itself, apart}

-- what is kept at f
abbrev pub kept_at : {X : Type 0} → List (Fid × X) → Fid → Option X
kept_at entries f = lookup (is_at (fid_cmp f)) entries

-- a choice by a fid, at it and elsewhere
here : {A : Type 0} (k : Fid) (x y : A) → cond (is_at (fid_cmp k) k) x y ≡ x
here k x y = at_itself fids_total k x y

else_where : {A : Type 0} (k q : Fid) (x y : A) → q ≢ k → cond (is_at (fid_cmp k) q) x y ≡ y
else_where k q x y ne = apart fid_cmp exact_fids k q x y (λ same. ne (sym same))

module _ {X : Type 0} where
  find_lookup : (entries : List (Fid × X)) (q : Fid) → find fid_cmp q entries ≡ kept_at entries q
  find_lookup [] q = refl
  find_lookup (e ∷ entries) q = ap (cond (is_eq (fid_cmp q e.0)) (Some e.1)) (find_lookup entries q)

  -- the finite map has what is kept
  pub get_keyed : (entries : List (Fid × X)) (q : Fid) → map.get (keyed entries) q ≡ kept_at entries q
  get_keyed entries q = map.get-from_entries fids_total entries q ∙ find_lookup entries q

  -- a value put
  pub keyed_put : (old new : List (Fid × X)) (f : Fid) (x : X) → ((q : Fid) → kept_at new q ≡ cond (is_at (fid_cmp f) q) (Some x) (kept_at old q)) → keyed new ≡ map.insert (keyed old) f x
  keyed_put old new f x put = map.same_map fids_total exact_fids _ _ (λ q. get_keyed new q ∙ put q ∙ elim (fid_cases q f) [
    | inl same ↦ ap (λ e. cond (is_at (fid_cmp f) e) (Some x) (kept_at old q)) same ∙ here f (Some x) (kept_at old q) ∙ sym (ap (map.get (map.insert (keyed old) f x)) same ∙ get_here fids_total (keyed old) f x)
    | inr other ↦ else_where f q (Some x) (kept_at old q) other ∙ sym (get_keyed old q) ∙ sym (get_else fids_total exact_fids (keyed old) f x q other)
  ])
