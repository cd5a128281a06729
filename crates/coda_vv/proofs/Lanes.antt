-- Inclusion from the masks of a comparison.
use Rattle.std.proofs.Common.{◌≡◌, ℕ, ◌+◌, ◌*◌, ◌&&◌, cond, eqb, List, [], ◌∷◌, length, refl, sym, ap, ◌∙◌, arith, inl, inr}
use Rattle.std.specs.Prelude.{nat_lt, nat_le, max}
use Rattle.std.proofs.lemmas.Bool.{eq-eqb, ne_eqb, cases_lt, cases_eq, lt-ltb, le-ltb, lt-leb, le-leb}
use Rattle.coda_lanes.specs.Lanes.{each, mask_of}
use Rattle.coda_vv.specs.Vector.{includes, joined}

twice_clear : (m : ℕ) → eqb (0 + 2 * m) 0 ≡ eqb m 0
twice_clear m = elim (cases_eq m 0) [
  | inl none ↦ eq-eqb _ _ (omega arith) ∙ sym (eq-eqb m 0 none)
  | inr some ↦ ne_eqb _ _ (λ e. some (omega arith)) ∙ sym (ne_eqb m 0 some)
]

first_clear : (x y m : ℕ) → eqb (cond (nat_lt x y) 1 0 + 2 * m) 0 ≡ (nat_le y x && eqb m 0)
first_clear x y m = elim (cases_lt x y) [
  | inl less ↦ ap (λ b. eqb (cond b 1 0 + 2 * m) 0) (lt-ltb x y less) ∙ ne_eqb (1 + 2 * m) 0 (λ e. omega arith) ∙ sym (ap (λ b. b && eqb m 0) (lt-leb y x less))
  | inr least ↦ ap (λ b. eqb (cond b 1 0 + 2 * m) 0) (le-ltb x y least) ∙ twice_clear m ∙ sym (ap (λ b. b && eqb m 0) (le-leb y x least))
]

pub includes_where_clear : (v w : List ℕ) → length v ≡ length w → eqb (mask_of (each nat_lt v w)) 0 ≡ includes v w
includes_where_clear [] w e = refl
includes_where_clear (x ∷ v) [] e = absurd (omega arith)
includes_where_clear (x ∷ v) (y ∷ w) e = first_clear x y (mask_of (each nat_lt v w)) ∙ ap (λ b. nat_le y x && b) (includes_where_clear v w (omega arith))

pub joined_is : (v w : List ℕ) → length v ≡ length w → each max v w ≡ joined v w
joined_is [] [] e = refl
joined_is [] (y ∷ w) e = absurd (omega arith)
joined_is (x ∷ v) [] e = absurd (omega arith)
joined_is (x ∷ v) (y ∷ w) e = ap (λ zs. max x y ∷ zs) (joined_is v w (omega arith))
