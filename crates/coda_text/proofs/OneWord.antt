-- What is printed is one word, and stands for the bytes that were printed.
use Rattle.std.proofs.Common.{◌≡◌, ℕ, suc, ◌+◌, ◌-◌, ◌*◌, ◌/◌, ◌%◌, ◌<◌, Bool, true, false, cond, leb, eqb, ◌⊎◌, inl, inr, List, [], ◌∷◌, ◌++◌, length, Option, Some, None, refl, sym, ap, ◌∙◌, append_assoc, add-zero, arith, rules, tests}
use Rattle.std.specs.Prelude.{◌&&◌, ◌||◌}
use Rattle.std.specs.Option.{option_map_or}
use Rattle.std.specs.List.{flat_map, list_all, AllByRecursion}
use Rattle.std.proofs.lemmas.Bool.{eqb-true, cases_lt}
use Rattle.std.proofs.lemmas.Bool.Decides.{nat_tests}
use Rattle.std.proofs.lemmas.List.{append-nil}
use Rattle.std.proofs.lemmas.List.Concat.{flat_map-cons}
use Rattle.coda_text.specs.declared.words.Part.{Part}
use Rattle.coda_text.specs.declared.words.Part.TheVariants.{Bare, Inside, Escape, High, Low, Closed}
use Rattle.coda_text.specs.declared.texts.Escape.TheVariants as escapes
use Rattle.coda_text.specs.Words.{gap, under_way, ended, word, scan, is_separator, is_bare, is_plain, is_hex, opens, goes_on, may_end, split_of}
use Rattle.coda_text.specs.Texts.{decoded, hex_value, hex_digit, escaped, quoted, is_open, is_open_byte, printed, value_of}

-- the part of a word behind more bytes
abbrev pub runs : Part → List ℕ → Option Part
runs part [] = Some part
runs part (b ∷ bs) = option_map_or (λ next. runs next bs) (goes_on part b) None

pub bare_apart : (b : ℕ) → is_bare b ≡ true → is_separator b ≡ false
bare_apart b e = grind (arith, nat_tests)

if_some : {A : Type 0} (b : Bool) (x y : A) → cond b (let r : Option A = Some x in r) None ≡ Some y → b ≡ true
if_some true x y e = refl
if_some false x y e = absurd cc

option_ok : {A B : Type 0} (o : Option A) (f : A → Option B) (y : B) → option_map_or f o None ≡ Some y → (x : A) × (o ≡ Some x) × (f x ≡ Some y)
option_ok (Some x) f y e = (x, refl, e)
option_ok None f y e = absurd cc

some_is : {A : Type 0} (x y : A) → (let r : Option A = Some x in r) ≡ Some y → x ≡ y
some_is x y e = cc

-- a byte that goes on with a word doesn't end it
stays : (part next : Part) (b : ℕ) → goes_on part b ≡ Some next → (may_end part && is_separator b) ≡ false
stays Bare next b e = bare_apart b (if_some (is_bare b) Bare next e)
stays Inside next b e = refl
stays Escape next b e = refl
stays High next b e = refl
stays Low next b e = refl
stays Closed next b e = absurd cc

-- A scan goes over the rest of a word.
pub scan_runs : (bs rest : List ℕ) (start at : ℕ) (text : List ℕ) (part last : Part) → runs part bs ≡ Some last
    → scan (under_way start text part) at (bs ++ rest) ≡ scan (under_way start (text ++ bs) last) (at + length bs) rest
unfolding scan
scan_runs [] rest start at text part last e = rw (append-nil, add-zero, ← some_is part last e) refl
scan_runs (b ∷ bs) rest start at text part last e =
    let o = option_ok (goes_on part b) (λ next. runs next bs) last e in
    let on = scan_runs bs rest start (at + 1) (text ++ b ∷ []) o.0 last o.2 in
    let place : at + 1 + length bs ≡ at + suc (length bs) = omega arith in
    let whole : (text ++ b ∷ []) ++ bs ≡ text ++ b ∷ bs = append_assoc text (b ∷ []) bs in
    rw (stays part o.0 b o.1, o.1) (on ∙ ap (λ (t : List ℕ). scan (under_way start t last) (at + 1 + length bs) rest) whole ∙ ap (λ (n : ℕ). scan (under_way start (text ++ b ∷ bs) last) n rest) place)

or_cases : (a b : Bool) → (a || b) ≡ true → (a ≡ true) ⊎ (b ≡ true)
or_cases true b e = inl refl
or_cases false b e = inr e

pub cases_bool : (b : Bool) → (b ≡ true) ⊎ (b ≡ false)
cases_bool true = inl refl
cases_bool false = inr refl

pub and_left : (a b : Bool) → (a && b) ≡ true → a ≡ true
and_left true b e = refl
and_left false b e = e

pub and_right : (a b : Bool) → (a && b) ≡ true → b ≡ true
and_right true b e = e
and_right false b e = absurd cc

pub open_is_bare : (b : ℕ) → is_open_byte b ≡ true → is_bare b ≡ true
open_is_bare b e = grind (arith, nat_tests)

hex_16 : (n : ℕ) → n < 16 → is_hex (hex_digit n) ≡ true
hex_16 n lt = elim (cases_lt n 10) [ inl small ↦ let e : leb n 9 ≡ true = search (rules, tests) in rw e (grind (arith, nat_tests)) | inr big ↦ let e : leb n 9 ≡ false = search (rules, tests) in rw e (grind (arith, nat_tests)) ]

value_16 : (n : ℕ) → n < 16 → hex_value (hex_digit n) ≡ n
value_16 n lt = elim (cases_lt n 10) [ inl small ↦ let e : leb n 9 ≡ true = search (rules, tests) in let d : 48 + n - 48 ≡ n = omega arith in rw e (grind (arith, nat_tests)) | inr big ↦ let e : leb n 9 ≡ false = search (rules, tests) in rw e (grind (arith, nat_tests)) ]

or_false : (a b : Bool) → (a || b) ≡ false → (a ≡ false) × (b ≡ false)
or_false true b e = absurd cc
or_false false b e = (refl, e)

shown_is_plain : (b : ℕ) → (leb 32 b && leb b 126) ≡ true → eqb b 34 ≡ false → eqb b 92 ≡ false → is_plain b ≡ true
shown_is_plain b t e f = grind (arith, nat_tests)

-- a printed byte goes on between quotes
escaped_runs : (b : ℕ) (rest : List ℕ) → b < 256 → runs Inside (escaped b ++ rest) ≡ runs Inside rest
escaped_runs b rest lt =
    elim (cases_bool (eqb b 34 || eqb b 92)) [
      | inl t ↦ elim (or_cases (eqb b 34) (eqb b 92) t) [
        | inl e ↦ rw (eqb-true b 34 e) refl
        | inr e ↦ rw (eqb-true b 92 e) refl
      ]
      | inr f ↦
          let p = or_false (eqb b 34) (eqb b 92) f in
          elim (cases_bool (leb 32 b && leb b 126)) [
            | inl t ↦ rw (f, t, shown_is_plain b t p.0 p.1, p.0, p.1) refl
            | inr g ↦ rw (f, g, hex_16 (b / 16) (omega arith), hex_16 (b % 16) (omega arith)) refl
          ]
    ]

escaped_decodes : (b : ℕ) (rest : List ℕ) → b < 256 → decoded escapes.Plain (escaped b ++ rest) ≡ b ∷ decoded escapes.Plain rest
unfolding decoded
escaped_decodes b rest lt =
    elim (cases_bool (eqb b 34 || eqb b 92)) [
      | inl t ↦ elim (or_cases (eqb b 34) (eqb b 92) t) [
        | inl e ↦ rw (eqb-true b 34 e) refl
        | inr e ↦ rw (eqb-true b 92 e) refl
      ]
      | inr f ↦
          let p = or_false (eqb b 34) (eqb b 92) f in
          elim (cases_bool (leb 32 b && leb b 126)) [
            | inl t ↦ rw (f, t, p.0, p.1) refl
            | inr g ↦ let m : 16 * (b / 16 % 16) + b % 16 ≡ b = omega arith in rw (f, g, value_16 (b / 16) (omega arith), value_16 (b % 16) (omega arith), m) refl
          ]
    ]

pub quoted_runs : (bs rest : List ℕ) → AllByRecursion (λ b. b < 256) bs → runs Inside (flat_map escaped bs ++ 34 ∷ rest) ≡ runs Closed rest
quoted_runs [] rest fits = refl
quoted_runs (b ∷ bs) rest fits =
    let regrouped : flat_map escaped (b ∷ bs) ++ 34 ∷ rest ≡ escaped b ++ (flat_map escaped bs ++ 34 ∷ rest) = ap (λ (x : List ℕ). x ++ 34 ∷ rest) (flat_map-cons escaped b bs) ∙ append_assoc (escaped b) (flat_map escaped bs) (34 ∷ rest) in
    ap (runs Inside) regrouped ∙ escaped_runs b (flat_map escaped bs ++ 34 ∷ rest) fits.0 ∙ quoted_runs bs rest fits.1

pub quoted_decodes : (bs : List ℕ) → AllByRecursion (λ b. b < 256) bs → decoded escapes.Plain (flat_map escaped bs ++ 34 ∷ []) ≡ bs
unfolding decoded
quoted_decodes [] fits = refl
quoted_decodes (b ∷ bs) fits =
    let regrouped : flat_map escaped (b ∷ bs) ++ 34 ∷ [] ≡ escaped b ++ (flat_map escaped bs ++ 34 ∷ []) = ap (λ (x : List ℕ). x ++ 34 ∷ []) (flat_map-cons escaped b bs) ∙ append_assoc (escaped b) (flat_map escaped bs) (34 ∷ []) in
    ap (decoded escapes.Plain) regrouped ∙ escaped_decodes b (flat_map escaped bs ++ 34 ∷ []) fits.0 ∙ ap (λ (x : List ℕ). b ∷ x) (quoted_decodes bs fits.1)

-- A word that runs to its end is one word of the line, whatever follows a separator behind it.
pub one_word : (b : ℕ) (bs : List ℕ) (at : ℕ) (first last : Part) → is_separator b ≡ false → opens b ≡ Some first → runs first bs ≡ Some last → may_end last ≡ true
    → scan gap at (b ∷ bs) ≡ word at (b ∷ bs) (ended (at + 1 + length bs))
unfolding scan
one_word b bs at first last sep o r may =
    let on : scan (under_way at (b ∷ []) first) (at + 1) bs ≡ scan (under_way at (b ∷ bs) last) (at + 1 + length bs) [] = ap (scan (under_way at (b ∷ []) first) (at + 1)) (sym (append-nil bs)) ∙ scan_runs bs [] at (at + 1) (b ∷ []) first last r in
    rw (sep, o) (on ∙ rw may refl)

-- and with more words behind it
pub one_word_more : (b : ℕ) (bs rest : List ℕ) (at : ℕ) (first last : Part) → is_separator b ≡ false → opens b ≡ Some first → runs first bs ≡ Some last → may_end last ≡ true
    → scan gap at (b ∷ bs ++ 32 ∷ rest) ≡ word at (b ∷ bs) (scan gap (at + 1 + length bs + 1) rest)
unfolding scan
one_word_more b bs rest at first last sep o r may =
    rw (sep, o) (scan_runs bs (32 ∷ rest) at (at + 1) (b ∷ []) first last r ∙ rw may refl)

pub open_runs : (bs : List ℕ) → list_all is_open_byte bs ≡ true → runs Bare bs ≡ Some Bare
open_runs [] e = refl
open_runs (b ∷ bs) e = rw (open_is_bare b (and_left (is_open_byte b) _ e)) (open_runs bs (and_right (is_open_byte b) _ e))

pub open_unquoted : (b : ℕ) → is_open_byte b ≡ true → eqb b 34 ≡ false
open_unquoted b e = grind (arith, nat_tests)

abbrev IsPrinted : List ℕ → List ℕ → Type 0
IsPrinted bs text = (split_of text ≡ word 0 text (ended (length text))) × (value_of text ≡ bs)

open_word : (bs : List ℕ) → is_open bs ≡ true → IsPrinted bs bs
open_word [] e = absurd cc
open_word (b ∷ bs) e =
    let all = and_right (leb 1 (length (b ∷ bs))) (list_all is_open_byte (b ∷ bs)) e in
    let first = and_left (is_open_byte b) (list_all is_open_byte bs) all in
    let bare = open_is_bare b first in
    let opened : opens b ≡ Some Bare = rw (bare, open_unquoted b first) refl in
    let k : 0 + 1 + length bs ≡ suc (length bs) = omega arith in
    let w = one_word b bs 0 Bare Bare (bare_apart b bare) opened (open_runs bs (and_right (is_open_byte b) (list_all is_open_byte bs) all)) refl in
    (w ∙ ap (λ (n : ℕ). word 0 (b ∷ bs) (ended n)) k, rw (open_unquoted b first) refl)

quoted_word : (bs : List ℕ) → AllByRecursion (λ b. b < 256) bs → IsPrinted bs (quoted bs)
unfolding decoded
quoted_word bs fits =
    let rest = flat_map escaped bs ++ 34 ∷ [] in
    let k : 0 + 1 + length rest ≡ suc (length rest) = omega arith in
    let w = one_word 34 rest 0 Inside Closed refl refl (quoted_runs bs [] fits) refl in
    (w ∙ ap (λ (n : ℕ). word 0 (34 ∷ rest) (ended n)) k, quoted_decodes bs fits)

-- What is printed is one word of a line, and stands for the bytes that were printed.
pub printed_word : (bs : List ℕ) → AllByRecursion (λ b. b < 256) bs → IsPrinted bs (printed bs)
printed_word bs fits =
    elim (cases_bool (is_open bs)) [
      | inl e ↦ rw e (open_word bs e)
      | inr e ↦ rw e (quoted_word bs fits)
    ]
