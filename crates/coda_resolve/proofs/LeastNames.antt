-- The least of what comes piece by piece.
use Rattle.std.proofs.Common.{◌≡◌, ◌+◌, ◌<◌, ℕ, Bool, List, [], ◌∷◌, ◌++◌, Option, get_or, length, take, refl, sym, ap, ◌∙◌, map, suc, arith, append_assoc}
use Rattle.std.proofs.Math.Seq.{take-suc}
use Rattle.std.proofs.lemmas.List.{append-nil, map-append}
use Rattle.std.specs.List.{filter, flat_map, fold}
use Rattle.std.proofs.lemmas.List.Elements.{filter-append}
use Rattle.std.specs.declared.cmp.Ordering.{Ordering}
use Rattle.coda_resolve.specs.Causes.{least_with}

pub fold_append : {A B : Type 0} (f : B → A → B) (b : B) (xs ys : List A) → fold f b (xs ++ ys) ≡ fold f (fold f b xs) ys
fold_append f b [] ys = refl
fold_append f b (x ∷ xs) ys = fold_append f (f b x) xs ys

-- two lists of which each is filtered
pub least_of_two : {X : Type 0} (cmp : X → X → Ordering) (t : X → Bool) (start mid end : Option X) (one other : List X) → mid ≡ fold (least_with cmp) start (filter t one) → end ≡ fold (least_with cmp) mid (filter t other) → end ≡ fold (least_with cmp) start (filter t (one ++ other))
least_of_two cmp t start mid end one other first then =
    then
    ∙ ap (λ o. fold (least_with cmp) o (filter t other)) first
    ∙ sym (fold_append (least_with cmp) start (filter t one) (filter t other))
    ∙ ap (fold (least_with cmp) start) (sym (filter-append t one other))

flat_append : {A B : Type 0} (g : A → List B) (xs ys : List A) → flat_map g (xs ++ ys) ≡ flat_map g xs ++ flat_map g ys
flat_append g [] ys = refl
flat_append g (x ∷ xs) ys = ap (λ rest. g x ++ rest) (flat_append g xs ys) ∙ sym (append_assoc (g x) (flat_map g xs) (flat_map g ys))

append_none : {B : Type 0} (xs : List B) → xs ++ [] ≡ xs
append_none xs = append-nil xs

-- one piece more
pub least_more : {X Y : Type 0} (cmp : X → X → Ordering) (g : Y → List X) (start mid end : Option X) (before all : List Y) (y : Y) → all ≡ before ++ y ∷ [] → mid ≡ fold (least_with cmp) start (flat_map g before) → end ≡ fold (least_with cmp) mid (g y) → end ≡ fold (least_with cmp) start (flat_map g all)
least_more cmp g start mid end before all y is first then =
    then
    ∙ ap (λ o. fold (least_with cmp) o (g y)) first
    ∙ sym (fold_append (least_with cmp) start (flat_map g before) (g y))
    ∙ ap (fold (least_with cmp) start) (ap (λ rest. flat_map g before ++ rest) (sym (append_none (g y))) ∙ sym (flat_append g before (y ∷ [])) ∙ ap (flat_map g) (sym is))

-- the items lent so far, and one more
pub lent_more : {X : Type 0} {Y : Type 0} (f : X → Y) (xs : List X) (i : ℕ) (x : X) → i < length xs → x ≡ get_or xs i x → map f (take (i + 1) xs) ≡ map f (take i xs) ++ f x ∷ []
lent_more f xs i x lt is = ap (map f) (next ∙ ap (λ y. take i xs ++ y ∷ []) (sym is)) ∙ map-append f (take i xs) (x ∷ [])
  where
    next : take (i + 1) xs ≡ take i xs ++ get_or xs i x ∷ []
    next = ap (λ n. take n xs) one ∙ take-suc xs i x lt
      where
        one : i + 1 ≡ suc i
        one = omega arith
