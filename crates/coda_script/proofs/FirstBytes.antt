-- With what words of one kind begin.
use Rattle.std.proofs.Common.{◌≡◌, ℕ, ◌+◌, ◌≤◌, Bool, true, false, leb, eqb, inl, inr, List, [], ◌∷◌, length, Option, Some, None, refl, sym, ap, ◌∙◌, arith}
use Rattle.std.specs.Prelude.{codes, ◌&&◌, ◌-◌, ◌*◌, ltb, ◌^◌}
use Rattle.std.specs.List.{list_all}
use Rattle.std.specs.Option.{option_map_or}
use Rattle.std.proofs.lemmas.Bool.{false≢true, leb-true, le-leb, eqb-true, ne_eqb}
use Rattle.coda_text.specs.Numbers.{number_of, number_from, with_digit, octal_of, octal_from, with_octal, begins_with_digit}
use Rattle.coda_text.specs.Texts.{is_quoted}
use Rattle.coda_script.specs.declared.line.Rights.{Rights}
use Rattle.coda_script.specs.Slots.{NumberSlot, between, octal, within, number_in, rights_in, letters_in, is_word}
use Rattle.coda_script.specs.FirstColumn.{is_lettered}
use Rattle.coda_script.proofs.Avoiding.{and_left, and_right}
use Rattle.coda_script.proofs.Binding.{word_is}
use Rattle.coda_script.proofs.InRanges.{if_some, if_then, and_then}
use Rattle.coda_script.proofs.WrongColumns.{cases_is}

mapped : (o : Option ℕ) (f : ℕ → Option ℕ) (y : ℕ) → option_map_or f o None ≡ Some y → (x : ℕ) × (o ≡ Some x) × (f x ≡ Some y)
mapped (Some x) f y e = (x, refl, e)
mapped None f y e = absurd cc

-- a number begins with a digit
pub decimal_begins_so : (w : List ℕ) (n : ℕ) → number_of w ≡ Some n → begins_with_digit w ≡ true
unfolding number_from
decimal_begins_so [] n e = absurd cc
decimal_begins_so (d ∷ ds) n e =
    let r = if_then (leb 1 (length (d ∷ ds)) && leb (length (d ∷ ds)) 20) (number_from 0 (d ∷ ds)) n e in
    let o = mapped (with_digit 0 d) (λ m. number_from m ds) n r in
    let i = if_some (leb 48 d && leb d 57 && ltb (0 * 10 + (d - 48)) (2 ^ 64)) (0 * 10 + (d - 48)) o.0 o.1 in
    and_left (leb 48 d && leb d 57) (ltb (0 * 10 + (d - 48)) (2 ^ 64)) i.0

octal_begins_so : (w : List ℕ) (n : ℕ) → octal_of w ≡ Some n → begins_with_digit w ≡ true
unfolding octal_from
octal_begins_so [] n e = absurd cc
octal_begins_so (d ∷ ds) n e =
    let r = if_then (leb 1 (length (d ∷ ds)) && leb (length (d ∷ ds)) 5) (octal_from 0 (d ∷ ds)) n e in
    let o = mapped (with_octal 0 d) (λ m. octal_from m ds) n r in
    let i = if_some (leb 48 d && leb d 55 && leb (0 * 8 + (d - 48)) 4095) (0 * 8 + (d - 48)) o.0 o.1 in
    let b = and_left (leb 48 d && leb d 55) (leb (0 * 8 + (d - 48)) 4095) i.0 in
    let low : leb 48 d ≡ true = and_left (leb 48 d) (leb d 55) b in
    let high : d ≤ 55 = leb-true d 55 (and_right (leb 48 d) (leb d 55) b) in
    let le : leb d 57 ≡ true = le-leb d 57 (omega (arith, high)) in
    rw (low, le) refl

pub number_begins : (slot : NumberSlot) (w : List ℕ) (n : ℕ) → number_in slot w ≡ Some n → begins_with_digit w ≡ true
number_begins (between low high) w n e = let o = and_then (number_of w) (within low high) n e in decimal_begins_so w o.0 o.1
number_begins octal w n e = octal_begins_so w n e

pub digit_unquoted : (w : List ℕ) → begins_with_digit w ≡ true → is_quoted w ≡ true → ⊥
digit_unquoted [] d q = absurd cc
digit_unquoted (b ∷ bs) d q =
    let low : 48 ≤ b = leb-true 48 b (and_left (leb 48 b) (leb b 57) d) in
    let is : b ≡ 34 = eqb-true b 34 q in
    omega (arith, low, is)

pub digit_unlettered : (w : List ℕ) → begins_with_digit w ≡ true → is_lettered w ≡ true → ⊥
digit_unlettered [] d l = absurd cc
digit_unlettered (b ∷ bs) d l =
    let high : b ≤ 57 = leb-true b 57 (and_right (leb 48 b) (leb b 57) d) in
    let p = and_left (leb 97 b && leb b 122) (list_all (λ c. leb 97 c && leb c 122) bs) l in
    let low : 97 ≤ b = leb-true 97 b (and_left (leb 97 b) (leb b 122) p) in
    omega (arith, low, high)

-- a word that the test holds of is no word that it doesn't hold of
pub apart : (test : List ℕ → Bool) (word u : List ℕ) → test word ≡ false → test u ≡ true → is_word word u ≡ false
apart test word u n is =
    elim (cases_is (is_word word u)) [
      | inr other ↦ other
      | inl same ↦ absurd (false≢true (sym n ∙ ap test (sym (word_is word u same)) ∙ is))
    ]

-- rights begin neither with a quote nor with a digit
no_rights_there : (b : ℕ) (bs : List ℕ) (r : Rights) → b ≤ 57 → letters_in (b ∷ bs) ≡ Some r → ⊥
no_rights_there b bs r le e =
    let away : (k : ℕ) → 58 ≤ k → eqb b k ≡ false = λ k lt. ne_eqb b k (λ is. omega (arith, le, lt, is)) in
    let e' = rw (away 114 (omega arith), away 108 (omega arith), away 105 (omega arith), away 100 (omega arith), away 119 (omega arith)) at e in
    absurd (let n = e' in cc)

pub rights_apart : (w : List ℕ) (r : Rights) → rights_in w ≡ Some r → (is_quoted w ≡ true → ⊥) × (begins_with_digit w ≡ true → ⊥)
rights_apart [] r e = (λ q. false≢true q, λ d. false≢true d)
rights_apart (b ∷ bs) r e =
    elim (cases_is (is_word (codes "-") (b ∷ bs))) [
      | inl dash ↦
          let is : b ∷ bs ≡ codes "-" = word_is (codes "-") (b ∷ bs) dash in
          (λ q. false≢true (ap is_quoted (sym is) ∙ q), λ d. false≢true (ap begins_with_digit (sym is) ∙ d))
      | inr other ↦
          let e' : letters_in (b ∷ bs) ≡ Some r = rw other at e in (
            λ q. no_rights_there b bs r (let is : b ≡ 34 = eqb-true b 34 q in omega (arith, is)) e',
            λ d. no_rights_there b bs r (leb-true b 57 (and_right (leb 48 b) (leb b 57) d)) e',
          )
    ]
