-- What a merge answers, installed, is a resolution.
use Rattle.std.proofs.Common.{◌≡◌, ◌≢◌, ℕ, List, [], ◌∷◌, map, sym, subst, ◌⊎◌, inl, inr, ⊎_elim}
use Rattle.std.specs.List.{AllZip}
use Rattle.std.proofs.lemmas.Bool.{cases_eq}
use Rattle.coda_fid.specs.declared.fid.Fid.{Fid}
use Rattle.coda_reslog.specs.declared.change.Change.{Change}
use Rattle.coda_resolve.specs.Resolution.{Replicas}
use Rattle.coda_resolve.specs.Placement.{IsIn}
use Rattle.coda_resolve.specs.Trees.{IsInstalled}
use Rattle.coda_resolve.specs.Changes.{changed, IsReplicaChange}
use Rattle.coda_lineage.specs.Lineage.{Group, held_at, IsChangedOrNot, MergesAreResolutions}

is_in_or_not : (s : ℕ) (some : List ℕ) → IsIn s some ⊎ (IsIn s some → ⊥)
is_in_or_not s [] = inr (λ i. i)
is_in_or_not s (t ∷ some) = go (cases_eq t s) (is_in_or_not s some)
  where
    go : (t ≡ s) ⊎ (t ≢ s) → IsIn s some ⊎ (IsIn s some → ⊥) → IsIn s (t ∷ some) ⊎ (IsIn s (t ∷ some) → ⊥)
    go (inl e) rest = inl (inl e)
    go (inr ne) (inl i) = inl (inr i)
    go (inr ne) (inr out) = inr (λ i. ⊎_elim ne out i)

module _ (root : Fid) (before after : Group) (all : Replicas) where
  at : (s : ℕ) (some : List ℕ) (changes : List Change) → IsIn s some
      → AllZip (IsReplicaChange all root) (map before.holds some) changes
      → AllZip (IsChangedOrNot before after) some changes
      → (after.holds s ≡ before.holds s) ⊎ IsInstalled all root (before.holds s) (after.holds s)
  at s [] changes i a z = absurd i
  at s (t ∷ some) [] i a z = absurd z
  at s (t ∷ some) (change ∷ changes) (inr i) a z = at s some changes i a.1 z.1
  at s (t ∷ some) (change ∷ changes) (inl same) a z =
      subst (λ q. (after.holds q ≡ before.holds q) ⊎ IsInstalled all root (before.holds q) (after.holds q)) same
      (⊎_elim
      (λ (e : after.holds t ≡ before.holds t). inl e)
      (λ (e : after.holds t ≡ changed (before.holds t) change). inr
      (subst (IsInstalled all root (before.holds t)) (sym e) a.0.installed))
      z.0)

pub merges_resolve : MergesAreResolutions
merges_resolve root before after some changes answers installed others made = record {
  each = λ s. ⊎_elim
      (λ (i : IsIn s some). ⊎_elim
      (λ (e : after.holds s ≡ before.holds s). inl e)
      (λ (e : IsInstalled (held_at before some) root (before.holds s) (after.holds s)). inr (i, e))
      (at root before after (held_at before some) s some changes i answers installed))
      (λ (out : IsIn s some → ⊥). inl (others s out))
      (is_in_or_not s some);
  made = made;
}
