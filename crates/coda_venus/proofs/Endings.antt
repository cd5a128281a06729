-- What a path ends with.
use Rattle.std.proofs.Common.{◌≡◌, List, [], ◌∷◌, ◌++◌, length, Some, None, option_map, refl, ap, ◌∙◌, arith}
use Rattle.coda_tree.specs.Bindings.{Name}
use Rattle.coda_venus.specs.Ask.{ending}

-- the first names and the last one
pub ending_is : (names front : List Name) (last : Name) → names ≡ front ++ last ∷ [] → ending names ≡ Some (front, last)
ending_is names front last e = ap ending e ∙ of_push front last
  where
    of_push : (front : List Name) (last : Name) → ending (front ++ last ∷ []) ≡ Some (front, last)
    of_push [] last = refl
    of_push (name ∷ []) last = refl
    of_push (name ∷ other ∷ front) last = ap (option_map (λ (e : List Name × Name). (name ∷ e.0, e.1))) (of_push (other ∷ front) last)

pub ending_none : (names : List Name) → length names ≡ 0 → ending names ≡ None
ending_none [] e = refl
ending_none (name ∷ names) e = absurd (omega arith)
