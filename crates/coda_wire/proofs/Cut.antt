-- What is left of a message that is cut short is refused where it ends.
use Rattle.std.proofs.Common.{◌≡◌, ℕ, zero, suc, ◌<◌, List, [], ◌∷◌, ◌++◌, length, take, drop, nat_lt, Result, Ok, Err, refl, ap, subst, arith, inl, inr}
use Rattle.std.proofs.lemmas.Bool.{cases_Bool, ltb-true, ltb-false}
use Rattle.coda_record.specs.Exact.{AreBytes, IsExact}
use Rattle.coda_record.specs.Spelling.{whole}
use Rattle.coda_record.proofs.Offsets.{agreeing_is_exact}
use Rattle.coda_wire.specs.declared.message.Message.{Message}
use Rattle.coda_wire.specs.Table.{message}
use Rattle.coda_wire.specs.Laws.{FirstBytesSayNothing}
use Rattle.coda_wire.proofs.Tabled.{message_agrees}

front_and_rest : (most : ℕ) (bytes : List ℕ) → take most bytes ++ drop most bytes ≡ bytes
front_and_rest zero bytes = refl
front_and_rest (suc most) [] = refl
front_and_rest (suc most) (b ∷ bytes) = ap (λ (bs : List ℕ). b ∷ bs) (front_and_rest most bytes)

front_are : (most : ℕ) (bytes : List ℕ) → AreBytes bytes → AreBytes (take most bytes)
front_are zero bytes are i = omega arith
front_are (suc most) [] are i = omega arith
front_are (suc most) (b ∷ bytes) are zero = are 0
front_are (suc most) (b ∷ bytes) are (suc i) = front_are most bytes (λ j. are (suc j)) i

front_length : (most : ℕ) (bytes : List ℕ) → most < length bytes → length (take most bytes) ≡ most
front_length zero bytes lt = refl
front_length (suc most) [] lt = absurd (omega (arith, lt))
front_length (suc most) (b ∷ bytes) lt = ap suc (front_length most bytes (omega (arith, lt)))

rest_length : (most : ℕ) (bytes : List ℕ) → most < length bytes → drop most bytes ≡ [] → ⊥
rest_length zero bytes lt none = let no = ap length none in omega (arith, lt, no)
rest_length (suc most) [] lt none = omega (arith, lt)
rest_length (suc most) (b ∷ bytes) lt none = rest_length most bytes (omega (arith, lt)) none

read_and_not : (r : Result Message ℕ) (m : Message) (at : ℕ) → r ≡ Ok m → r ≡ Err at → ⊥
read_and_not r m at said refused = cc

pub first_bytes_say_nothing : FirstBytesSayNothing
first_bytes_say_nothing bytes m most are spelled lt = by (whole message (take most bytes)) refl
  where
    exact : IsExact message
    exact = agreeing_is_exact message message_agrees

    by : (r : Result Message ℕ) → whole message (take most bytes) ≡ r → r ≡ Err most
    by (Ok x) e =
        let front = exact.found (take most bytes) x (front_are most bytes are) e in
        absurd (rest_length most bytes lt (exact.apart (take most bytes) bytes (drop most bytes) x m front spelled (front_and_rest most bytes)).1)
    by (Err at) e = elim (cases_Bool (nat_lt at most)) [
      | inl before ↦
          let here : at < length (take most bytes) = omega (arith, ltb-true at most before, front_length most bytes lt) in
          let stays : whole message (take most bytes ++ drop most bytes) ≡ Err at = exact.stays (take most bytes) (drop most bytes) at here e in
          absurd (read_and_not (whole message bytes) m at (exact.only bytes m spelled) (subst (λ (bs : List ℕ). whole message bs ≡ Err at) (front_and_rest most bytes) stays))
      | inr behind ↦
          let within = (exact.first (take most bytes) at e).0 in
          let above = ltb-false at most behind in
          ap (λ (n : ℕ). Err n) (omega (arith, within, above, front_length most bytes lt))
    ]
