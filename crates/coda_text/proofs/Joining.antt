-- Words joined by spaces are those words; how numbers and texts are written, each as one word.
use Rattle.std.proofs.Common.{◌≡◌, ℕ, zero, suc, ◌+◌, ◌-◌, ◌*◌, ◌/◌, ◌%◌, ◌^◌, ◌<◌, ◌≤◌, Bool, true, false, ltb, leb, eqb, inl, inr, List, [], ◌∷◌, ◌++◌, length, map, Option, Some, None, refl, ap, ◌∙◌, arith, rules, tests}
use Rattle.std.specs.Prelude.{◌&&◌}
use Rattle.std.specs.List.{list_all}
use Rattle.std.proofs.lemmas.List.{length-map}
use Rattle.std.proofs.lemmas.Bool.Decides.{nat_tests}
use Rattle.std.specs.List.{AllByRecursion}
use Rattle.std.specs.Int.Digits.{number_from_digits_after}
use Rattle.coda_text.specs.declared.words.Part.{Part}
use Rattle.coda_text.specs.Words.{Word, gap, scan, is_separator, is_bare, opens, may_end}
use Rattle.std.specs.Fmt.{decimal, digits}
use Rattle.std.specs.Int.Digits.{digits_of}
use Rattle.std.proofs.lemmas.Fmt.{decimal-digits_of, decimal_nonempty, length-decimal-le}
use Rattle.std.proofs.lemmas.Int.Digits.{number_digits_of, all_below_base_digits_of}
use Rattle.std.proofs.lemmas.Bool.{le-leb}
use Rattle.coda_text.specs.declared.words.Part.TheVariants.{Bare, Inside, Closed}
use Rattle.coda_text.specs.Numbers.{with_digit, number_from, number_of, with_octal, octal_from, octal_of, begins_with_digit}
use Rattle.coda_text.specs.Texts.{quoted, printed, is_open, is_open_byte, value_of, decoded}
use Rattle.coda_text.specs.Printed.{AreBytes}
use Rattle.coda_text.proofs.OneWord.{runs, one_word, one_word_more, bare_apart, open_is_bare, open_runs, open_unquoted, quoted_runs, quoted_decodes, and_left, and_right, cases_bool}

-- the bytes b ∷ bs are one word
pub record IsWord (b : ℕ) (bs : List ℕ) : Type 0 where
  pub apart : is_separator b ≡ false
  pub first : Part
  pub last : Part
  pub opened : opens b ≡ Some first
  pub ran : runs first bs ≡ Some last
  pub over : may_end last ≡ true

-- some bytes are one word
abbrev pub IsOneWord : List ℕ → Type 0
IsOneWord [] = ⊥
IsOneWord (b ∷ bs) = IsWord b bs

-- each is one word
abbrev pub AreWords : List (List ℕ) → Type 0
AreWords [] = Unit {0}
AreWords (t ∷ ts) = IsOneWord t × AreWords ts

-- words with a space between
abbrev pub join : List (List ℕ) → List ℕ
join [] = []
join (t ∷ []) = t
join (t ∷ u ∷ ts) = t ++ 32 ∷ join (u ∷ ts)

-- words joined by spaces are the words of that line
pub joined : (ts : List (List ℕ)) (at : ℕ) → AreWords ts → (map (λ (w : Word). w.text) (scan gap at (join ts)).words ≡ ts) × ((scan gap at (join ts)).breaks ≡ None)
unfolding scan
joined [] at h = (refl, refl)
joined ([] ∷ ts) at h = absurd h.0
joined ((b ∷ bs) ∷ []) at h =
    let w = h.0 in
    rw (one_word b bs at w.first w.last w.apart w.opened w.ran w.over) (refl, refl)
joined ((b ∷ bs) ∷ u ∷ ts) at h =
    let w = h.0 in
    let rest = joined (u ∷ ts) (at + 1 + length bs + 1) h.1 in
    rw (one_word_more b bs (join (u ∷ ts)) at w.first w.last w.apart w.opened w.ran w.over) (ap (λ (t : List (List ℕ)). (b ∷ bs) ∷ t) rest.0, rest.1)

pub are_words : (a b : List (List ℕ)) → AreWords a → AreWords b → AreWords (a ++ b)
are_words [] b p q = q
are_words (t ∷ ts) b p q = (p.0, are_words ts b p.1 q)

grows : (ds : List ℕ) (n : ℕ) → n ≤ number_from_digits_after 10 n ds
grows [] n = omega arith
grows (d ∷ ds) n = omega (arith, grows ds (n * 10 + d))

one_digit : (n d : ℕ) → d < 10 → n * 10 + d < 2 ^ 64 → with_digit n (48 + d) ≡ Some (n * 10 + d)
one_digit n d small fits =
    let k : 48 + d - 48 ≡ d = omega arith in
    let low : leb 48 (48 + d) ≡ true = search (rules, tests) in
    let high : leb (48 + d) 57 ≡ true = search (rules, tests) in
    let under : ltb (n * 10 + d) (2 ^ 64) ≡ true = search (rules, tests) in
    rw (k, low, high, under) refl

pub digits_read : (ds : List ℕ) (n total : ℕ) → AllByRecursion (λ d. d < 10) ds → number_from_digits_after 10 n ds ≡ total → total < 2 ^ 64 → number_from n (map (λ d. 48 + d) ds) ≡ Some total
unfolding number_from
digits_read [] n total all e lt = ap (λ (m : ℕ). let o : Option ℕ = Some m in o) e
digits_read (d ∷ ds) n total all e lt =
    let step = one_digit n d all.0 (omega (arith, grows ds (n * 10 + d), e)) in
    rw step (digits_read ds (n * 10 + d) total all.1 e lt)

written : (m : ℕ) → m < 2 ^ 64 → number_from 0 (decimal m) ≡ Some m
unfolding number_from digits
written zero h = refl
written (suc m) h = rw (decimal-digits_of (suc m) (omega arith) h) (digits_read (digits_of 10 (suc m)) 0 (suc m) (all_below_base_digits_of 10 (suc m) (omega arith)) (number_digits_of 10 (suc m) (omega arith)) h)

-- a number that was written is read again
pub number_again : (n : ℕ) → n < 2 ^ 64 → number_of (decimal n) ≡ Some n
number_again n lt =
    let low : leb 1 (length (decimal n)) ≡ true = le-leb 1 _ (let h = decimal_nonempty n lt in omega arith) in
    let high : leb (length (decimal n)) 20 ≡ true = le-leb _ 20 (length-decimal-le 20 n (omega arith) (omega arith) lt) in
    rw (low, high) (written n lt)

-- ---- bare words

bare_runs : (bs : List ℕ) → list_all is_bare bs ≡ true → runs Bare bs ≡ Some Bare
bare_runs [] e = refl
bare_runs (b ∷ bs) e = rw (and_left (is_bare b) (list_all is_bare bs) e) (bare_runs bs (and_right (is_bare b) (list_all is_bare bs) e))

bare_unquoted : (b : ℕ) → is_bare b ≡ true → eqb b 34 ≡ false
bare_unquoted b e = grind (arith, nat_tests)

-- some bare bytes, one at least
abbrev pub is_bare_word : List ℕ → Bool
is_bare_word [] = false
is_bare_word (b ∷ bs) = is_bare b && list_all is_bare bs

pub bare_word : (w : List ℕ) → is_bare_word w ≡ true → IsOneWord w
bare_word [] e = absurd cc
bare_word (b ∷ bs) e =
    let bare = and_left (is_bare b) (list_all is_bare bs) e in
    record {
      apart = bare_apart b bare;
      first = Bare;
      last = Bare;
      opened = rw (bare, bare_unquoted b bare) refl;
      ran = bare_runs bs (and_right (is_bare b) (list_all is_bare bs) e);
      over = refl;
    }

digit_bare : (d : ℕ) → d < 10 → is_bare (48 + d) ≡ true
digit_bare d lt = search (rules, tests)

digits_bare : (ds : List ℕ) → AllByRecursion (λ d. d < 10) ds → list_all is_bare (map (λ d. 48 + d) ds) ≡ true
digits_bare [] all = refl
digits_bare (d ∷ ds) all = rw (digit_bare d all.0) (digits_bare ds all.1)

digit_is : (d : ℕ) → d < 10 → (leb 48 (48 + d) && leb (48 + d) 57) ≡ true
digit_is d lt = search (rules, tests)

digits_word : (ds : List ℕ) → 0 < length ds → AllByRecursion (λ d. d < 10) ds → (is_bare_word (map (λ d. 48 + d) ds) ≡ true) × (begins_with_digit (map (λ d. 48 + d) ds) ≡ true)
digits_word [] some all = absurd (omega (arith, some))
digits_word (d ∷ ds) some all = (rw (digit_bare d all.0) (digits_bare ds all.1), digit_is d all.0)

some_digits : (n : ℕ) → n < 2 ^ 64 → (is_bare_word (decimal n) ≡ true) × (begins_with_digit (decimal n) ≡ true)
unfolding digits
some_digits zero lt = (refl, refl)
some_digits (suc n) lt =
    let is = decimal-digits_of (suc n) (omega arith) lt in
    let some : 0 < length (decimal (suc n)) = decimal_nonempty (suc n) lt in
    let count : length (decimal (suc n)) ≡ length (digits_of 10 (suc n)) = ap length is ∙ length-map (digits_of 10 (suc n)) (λ d. 48 + d) in
    rw is (digits_word (digits_of 10 (suc n)) (omega (arith, some, count)) (all_below_base_digits_of 10 (suc n) (omega arith)))

-- a written number is a word that begins with a digit
pub decimal_word : (n : ℕ) → n < 2 ^ 64 → IsOneWord (decimal n)
decimal_word n lt = bare_word (decimal n) (some_digits n lt).0

pub decimal_begins : (n : ℕ) → n < 2 ^ 64 → begins_with_digit (decimal n) ≡ true
decimal_begins n lt = (some_digits n lt).1

-- ---- octal numbers

-- a number below 8^4 in octal digits
abbrev pub octal_text : ℕ → List ℕ
octal_text n = (48 + n / 512 % 8) ∷ (48 + n / 64 % 8) ∷ (48 + n / 8 % 8) ∷ (48 + n % 8) ∷ []

octal_digit : (n d : ℕ) → d < 8 → n * 8 + d ≤ 4095 → with_octal n (48 + d) ≡ Some (n * 8 + d)
octal_digit n d small fits =
    let k : 48 + d - 48 ≡ d = omega arith in
    let low : leb 48 (48 + d) ≡ true = search (rules, tests) in
    let high : leb (48 + d) 55 ≡ true = search (rules, tests) in
    let under : leb (n * 8 + d) 4095 ≡ true = search (rules, tests) in
    rw (k, low, high, under) refl

pub octal_again : (n : ℕ) → n ≤ 4095 → octal_of (octal_text n) ≡ Some n
unfolding octal_from
octal_again n le =
    let a = octal_digit 0 (n / 512 % 8) (omega arith) (omega arith) in
    let b = octal_digit (0 * 8 + n / 512 % 8) (n / 64 % 8) (omega arith) (omega arith) in
    let c = octal_digit ((0 * 8 + n / 512 % 8) * 8 + n / 64 % 8) (n / 8 % 8) (omega arith) (omega arith) in
    let d = octal_digit (((0 * 8 + n / 512 % 8) * 8 + n / 64 % 8) * 8 + n / 8 % 8) (n % 8) (omega arith) (omega arith) in
    let whole : (((0 * 8 + n / 512 % 8) * 8 + n / 64 % 8) * 8 + n / 8 % 8) * 8 + n % 8 ≡ n = omega arith in
    rw (a, b, c, d, whole) refl

pub octal_word : (n : ℕ) → IsOneWord (octal_text n)
octal_word n = bare_word (octal_text n) (rw (digit_bare (n / 512 % 8) (omega arith), digit_bare (n / 64 % 8) (omega arith), digit_bare (n / 8 % 8) (omega arith), digit_bare (n % 8) (omega arith)) refl)

-- ---- texts

pub quoted_one_word : (bytes : List ℕ) → AreBytes bytes → IsOneWord (quoted bytes)
quoted_one_word bytes fits = record { apart = refl; first = Inside; last = Closed; opened = refl; ran = quoted_runs bytes [] fits; over = refl }

open_one_word : (bytes : List ℕ) → is_open bytes ≡ true → IsOneWord bytes
open_one_word [] e = absurd cc
open_one_word (b ∷ bs) e =
    let all = and_right (leb 1 (length (b ∷ bs))) (list_all is_open_byte (b ∷ bs)) e in
    let first = and_left (is_open_byte b) (list_all is_open_byte bs) all in
    let bare = open_is_bare b first in
    record {
      apart = bare_apart b bare;
      first = Bare;
      last = Bare;
      opened = rw (bare, open_unquoted b first) refl;
      ran = open_runs bs (and_right (is_open_byte b) (list_all is_open_byte bs) all);
      over = refl;
    }

pub printed_one_word : (bytes : List ℕ) → AreBytes bytes → IsOneWord (printed bytes)
printed_one_word bytes fits =
    elim (cases_bool (is_open bytes)) [
      | inl e ↦ rw e (open_one_word bytes e)
      | inr e ↦ rw e (quoted_one_word bytes fits)
    ]

pub quoted_again : (bytes : List ℕ) → AreBytes bytes → value_of (quoted bytes) ≡ bytes
unfolding decoded
quoted_again bytes fits = quoted_decodes bytes fits
