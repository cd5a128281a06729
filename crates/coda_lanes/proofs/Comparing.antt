-- Masks as the machine makes them, and as the definitions say them.
use Rattle.std.proofs.Common.{◌≡◌, ℕ, ◌+◌, ◌-◌, ◌*◌, ◌/◌, ◌%◌, ◌^◌, ◌<◌, ◌≤◌, Bool, true, false, not, cond, eqb, List, [], ◌∷◌, map, length, get_or, refl, sym, ap, ◌∙◌, arith, w64, IsTrue, ◌↔◌, nat_eq, subst, inl, inr, ◌++◌, take, drop, ap₂}
use Rattle.std.proofs.Math.Seq.{take-add}
use Rattle.std.proofs.lemmas.List.{take-append-drop, take_all, length-drop}
use Rattle.std.specs.Prelude.{nat_lt, max}
use Rattle.std.proofs.lemmas.Simd.{tops_compared, mask_l-mod, mask_l-lt, length-zip2, bit_mask_l}
use Rattle.std.proofs.lemmas.Bool.{eq-eqb, eqb-true, cases_lt, cond-true, cond-false, lt-ltb, le-ltb}
use Rattle.std.specs.Int.{Width}
use lib.Lanes.{zip2, mask_l, sel_l, top}
use mir.Val.{bits, hbits}
use Rattle.coda_lanes.specs.Lanes.{each, mask_of, part}

pub each_is : {A : Type 0} (f : ℕ → ℕ → A) (xs ys : List ℕ) → zip2 f xs ys ≡ each f xs ys
each_is f [] ys = refl
each_is f (x ∷ xs) [] = refl
each_is f (x ∷ xs) (y ∷ ys) = ap (λ zs. f x y ∷ zs) (each_is f xs ys)

pub length-each : {A : Type 0} (f : ℕ → ℕ → A) (xs ys : List ℕ) → length xs ≡ length ys → length (each f xs ys) ≡ length xs
length-each f xs ys e = sym (ap length (each_is f xs ys)) ∙ length-zip2 f xs ys e

pub mask_is : (bits : List Bool) → mask_l bits ≡ mask_of bits
mask_is [] = refl
mask_is (true ∷ bits) = ap (λ n. 1 + 2 * n) (mask_is bits)
mask_is (false ∷ bits) = ap (λ n. 0 + 2 * n) (mask_is bits)

pub mask_below : (bits : List Bool) → mask_of bits < 2 ^ length bits
mask_below bits = subst (λ n. n < 2 ^ length bits) (mask_is bits) (mask_l-lt bits)

pub bits_of_masks : (bits : List Bool) (place : ℕ) → mask_of bits / 2 ^ place % 2 ≡ cond (get_or bits place false) 1 0
bits_of_masks bits place = sym (ap (λ n. n / 2 ^ place % 2) (mask_is bits)) ∙ bit_mask_l bits place

-- the mask of a comparison of two vectors
pub compared : (w : Width) (t : ℕ → ℕ → Bool) (xs ys : List ℕ) → length xs ≡ length ys → length xs ≤ 64
    → mask_l (map (top (hbits w)) (zip2 (λ a b. cond (t a b) (2 ^ bits w - 1) 0) xs ys)) % 2 ^ 64 ≡ mask_of (each t xs ys)
compared w t xs ys e few =
    ap (λ bits. mask_l bits % 2 ^ 64) (tops_compared w t xs ys)
    ∙ mask_l-mod (zip2 t xs ys) 64 (omega (arith, length-zip2 t xs ys e))
    ∙ mask_is (zip2 t xs ys) ∙ ap mask_of (each_is t xs ys)

-- ---- a mask of differences
abbrev differ : ℕ → ℕ → Bool
differ x y = not (eqb x y)

first_clear : (bit : Bool) (rest : ℕ) → cond bit 1 0 + 2 * rest ≡ 0 → (bit ≡ false) × (rest ≡ 0)
first_clear true rest e = absurd (omega arith)
first_clear false rest e = (refl, omega arith)

same_from : (x y : ℕ) → not (eqb x y) ≡ false → x ≡ y
same_from x y e = eqb-true x y (back (eqb x y) e)
  where
    back : (b : Bool) → not b ≡ false → b ≡ true
    back true e = refl
    back false e = sym e

clear_same : (xs ys : List ℕ) → length xs ≡ length ys → mask_of (each differ xs ys) ≡ 0 → xs ≡ ys
clear_same [] [] e h = refl
clear_same [] (y ∷ ys) e h = absurd (omega arith)
clear_same (x ∷ xs) [] e h = absurd (omega arith)
clear_same (x ∷ xs) (y ∷ ys) e h =
    let parts = first_clear (differ x y) (mask_of (each differ xs ys)) h in
    λ j. same_from x y parts.0 j ∷ clear_same xs ys (omega arith) parts.1 j

same_clear : (xs : List ℕ) → mask_of (each differ xs xs) ≡ 0
same_clear [] = refl
same_clear (x ∷ xs) =
    ap (λ b. cond (not b) 1 0 + 2 * mask_of (each differ xs xs)) (eq-eqb x x refl) ∙ ap (λ n. 0 + 2 * n) (same_clear xs)

pub clear_where_same : (xs ys : List ℕ) → length xs ≡ length ys → IsTrue (nat_eq (mask_of (each differ xs ys)) 0) ↔ (xs ≡ ys)
clear_where_same xs ys e = (
  λ h. clear_same xs ys e (eqb-true _ _ h),
  λ h. eq-eqb _ _ (subst (λ zs. mask_of (each differ xs zs) ≡ 0) h (same_clear xs)),
)

-- ---- the greater of two
greater_of : (x y : ℕ) → cond (nat_lt x y) y x ≡ max x y
greater_of x y = elim (cases_lt x y) [
  | inl less ↦ cond-true _ y x (lt-ltb x y less) ∙ omega arith
  | inr least ↦ cond-false _ y x (le-ltb x y least) ∙ omega arith
]

pub selected : (xs ys : List ℕ) → length xs ≡ length ys
    → sel_l (map (top 63) (zip2 (λ a b. cond (nat_lt a b) (2 ^ 64 - 1) 0) xs ys)) ys xs ≡ each max xs ys
selected xs ys e = ap (λ bits. sel_l bits ys xs) (tops_compared w64 nat_lt xs ys) ∙ lanes xs ys
  where
    lanes : (xs ys : List ℕ) → sel_l (zip2 nat_lt xs ys) ys xs ≡ each max xs ys
    lanes [] ys = refl
    lanes (x ∷ xs) [] = refl
    lanes (x ∷ xs) (y ∷ ys) = λ j. greater_of x y j ∷ lanes xs ys j

-- ---- lists in two parts
pub one_part_more : (at n : ℕ) (xs ys : List ℕ) → take at xs ≡ take at ys → part at n xs ≡ part at n ys → take (at + n) xs ≡ take (at + n) ys
one_part_more at n xs ys front next = take-add at n xs ∙ ap₂ (λ ps qs. ps ++ qs) front next ∙ sym (take-add at n ys)

rest_of : (at : ℕ) (xs : List ℕ) → take (length xs - at) (drop at xs) ≡ drop at xs
rest_of at xs = take_all (length xs - at) (drop at xs) (simp length-drop (omega arith))

-- the same where both parts are
pub same_parts : (at : ℕ) (xs ys : List ℕ) (answer : Bool) → take at xs ≡ take at ys
    → IsTrue answer ↔ (take (length xs - at) (drop at xs) ≡ take (length ys - at) (drop at ys)) → IsTrue answer ↔ (xs ≡ ys)
same_parts at xs ys answer front told = (
  λ h. sym (take-append-drop at xs) ∙ ap₂ (λ ps qs. ps ++ qs) front (sym (rest_of at xs) ∙ told.0 h ∙ rest_of at ys) ∙ take-append-drop at ys,
  λ e. told.1 (ap (λ zs. take (length zs - at) (drop at zs)) e),
)
