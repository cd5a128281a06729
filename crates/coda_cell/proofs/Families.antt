-- Families over all numbers, with one member changed.
use Rattle.std.proofs.Common.{◌≡◌, ℕ, ◌==◌, true, false, cond, refl, sym, ap, ◌∙◌, arith}
use Rattle.std.proofs.lemmas.Bool.{eqb-true}
use Rattle.std.proofs.lemmas.Bool.Decides.{nat_tests}
use Rattle.coda_cell.specs.State.{put}

pub put_here : {A : Type 0} (f : ℕ → A) (k : ℕ) (x : A) → put f k x k ≡ x
put_here f k x = let e : (k == k) ≡ true = grind (arith, nat_tests) in ap (λ b. cond b x (f k)) e

pub put_same : {A : Type 0} (f : ℕ → A) (k : ℕ) (x : A) → f k ≡ x → (q : ℕ) → put f k x q ≡ f q
put_same f k x is q =
    elim (q == k) as (λ b. (q == k) ≡ b → cond b x (f q) ≡ f q) [
      | true ↦ λ e. sym is ∙ ap f (sym (eqb-true q k e))
      | false ↦ λ e. refl
    ] refl

pub put_put : {A : Type 0} (f : ℕ → A) (k : ℕ) (x y : A) (q : ℕ) → put (put f k x) k y q ≡ put f k y q
put_put f k x y q = elim (q == k) as (λ b. cond b y (cond b x (f q)) ≡ cond b y (f q)) [ true ↦ refl | false ↦ refl ]
