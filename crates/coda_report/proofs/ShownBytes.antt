-- One step over what is printed.
use Rattle.std.proofs.Common.{◌≡◌, ℕ, zero, suc, ◌+◌, ◌≤◌, List, [], ◌∷◌, ◌++◌, length, take, Some, sym, ap, ◌∙◌, add-one, append_assoc}
use Rattle.std.specs.Prelude.{slice_get}
use Rattle.std.specs.List.{flat_map}
use Rattle.std.proofs.lemmas.List.{append-nil, take_all}
use Rattle.std.proofs.lemmas.Option.{same_Some, none-some}

-- one element more
shown_suc : {X : Type 0} (f : X → List ℕ) (xs : List X) (i : ℕ) (x : X) → slice_get xs i ≡ Some x → flat_map f (take (suc i) xs) ≡ flat_map f (take i xs) ++ f x
shown_suc f [] i x is = absurd (none-some x is)
shown_suc f (first ∷ xs) zero x is = append-nil (f first) ∙ ap f (same_Some first x is)
shown_suc f (first ∷ xs) (suc i) x is = ap (λ rest. f first ++ rest) (shown_suc f xs i x is) ∙ sym (append_assoc (f first) (flat_map f (take i xs)) (f x))

pub shown_step : {X : Type 0} (f : X → List ℕ) (xs : List X) (i : ℕ) (x : X) (start out new : List ℕ) → Some x ≡ slice_get xs i → out ≡ start ++ flat_map f (take i xs) → new ≡ out ++ f x → new ≡ start ++ flat_map f (take (i + 1) xs)
shown_step f xs i x start out new is before more =
    more ∙ ap (λ o. o ++ f x) before ∙ append_assoc start (flat_map f (take i xs)) (f x)
    ∙ ap (λ rest. start ++ rest) (sym (shown_suc f xs i x (sym is)))
    ∙ ap (λ (n : ℕ). start ++ flat_map f (take n xs)) (sym (add-one i))

-- and no more
pub shown_all : {X : Type 0} (f : X → List ℕ) (xs : List X) (i : ℕ) (start out : List ℕ) → length xs ≤ i → out ≡ start ++ flat_map f (take i xs) → out ≡ start ++ flat_map f xs
shown_all f xs i start out le before = before ∙ ap (λ ys. start ++ flat_map f ys) (take_all i xs le)
