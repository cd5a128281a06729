-- Tests and lists.
use Rattle.std.proofs.Common.{◌≡◌, Bool, true, false, List, Option, Some, None, refl, sym, ap, ◌∙◌, ◌||◌}
use Rattle.std.specs.List.{list_any}
use Rattle.std.proofs.lemmas.Bool.{true≢false}
use Rattle.coda_resolve.specs.Placement.{IsIn}
use Rattle.coda_resolve.proofs.Logged.{in_any}

pub or_first : (a b : Bool) → a ≡ true → (a || b) ≡ true
or_first a b x = ap (λ c. c || b) x

pub or_second : (a b : Bool) → b ≡ true → (a || b) ≡ true
or_second true b y = refl
or_second false b y = y

pub not_true : (b : Bool) → (b ≡ true → ⊥) → b ≡ false
not_true true h = absurd (h refl)
not_true false h = refl

pub the_some : {X : Type 0} (x y : X) → Some x ≡ Some y → x ≡ y
the_some {X} x y e = ap pick e
  where
    pick : Option X → X
    pick None = x
    pick (Some z) = z

pub any_none : {X : Type 0} (t : X → Bool) (xs : List X) (x : X) → list_any t xs ≡ false → IsIn x xs → t x ≡ false
any_none t xs x e s = not_true (t x) (λ p. true≢false (sym (in_any t xs x s p) ∙ e))
