-- Pieces between quotes are read as what they stand for (`pieces_read`), and a word that ran to its end is bare or such pieces
-- (`ran_spelled`).
use Rattle.std.proofs.Common.{◌≡◌, ℕ, suc, ◌+◌, ◌-◌, ◌%◌, ◌<◌, Bool, true, false, leb, eqb, ◌⊎◌, inl, inr, List, [], ◌∷◌, ◌++◌, length, map, Option, Some, refl, sym, ap, ◌∙◌, append_assoc, arith}
use Rattle.std.specs.Prelude.{◌||◌}
use Rattle.std.specs.List.{list_all}
use Rattle.std.proofs.lemmas.Bool.{eqb-true, false≢true}
use Rattle.std.proofs.lemmas.Bool.Decides.{nat_tests}
use Rattle.coda_text.specs.declared.words.Part.{Part}
use Rattle.coda_text.specs.declared.words.Part.TheVariants.{Bare, Inside, Escape, High, Low, Closed}
use Rattle.coda_text.specs.declared.texts.Escape.TheVariants as escapes
use Rattle.coda_text.specs.Words.{ended, word, is_bare, is_plain, is_hex, opens, may_end}
use Rattle.coda_text.specs.Texts.{decoded, hex_value}
use Rattle.coda_text.specs.Printed.{IsWordFor}
use Rattle.coda_text.specs.Pieces.{Piece, itself, quote, backslash, newline, hexadecimal, spelled, spelling, worth, stands_for, IsPiece, ArePieces, between_quotes, IsBareText, IsQuotedText}
use Rattle.coda_text.proofs.OneWord.{runs, one_word, cases_bool}

-- ---- reading

no_quote : (b : ℕ) → is_plain b ≡ true → eqb b 34 ≡ false
no_quote b e = grind (arith, nat_tests)

no_backslash : (b : ℕ) → is_plain b ≡ true → eqb b 92 ≡ false
no_backslash b e = grind (arith, nat_tests)

piece_runs : (p : Piece) (rest : List ℕ) → IsPiece p → runs Inside (spelled p ++ rest) ≡ runs Inside rest
piece_runs (itself b) rest h = rw (h, no_quote b h, no_backslash b h) refl
piece_runs quote rest h = refl
piece_runs backslash rest h = refl
piece_runs newline rest h = refl
piece_runs (hexadecimal high low) rest h = rw (h.0, h.1) refl

-- the value of a digit is what it is worth
worth_is : (b : ℕ) → is_hex b ≡ true → (hex_value b ≡ worth b) × (worth b < 16)
worth_is b e =
    elim (cases_bool (leb b 57)) [
      | inl low ↦ let lt : b - 48 < 16 = grind (arith, nat_tests) in rw low (small (b - 48) lt, lt)
      | inr high ↦ elim (cases_bool (leb b 70)) [
        | inl upper ↦ let lt : b - 55 < 16 = grind (arith, nat_tests) in rw (high, upper) (small (b - 55) lt, lt)
        | inr lower ↦ let lt : b - 87 < 16 = grind (arith, nat_tests) in rw (high, lower) (small (b - 87) lt, lt)
      ]
    ]
  where
    small : (n : ℕ) → n < 16 → n % 16 ≡ n
    small n lt = omega (arith, lt)

piece_decodes : (p : Piece) (rest : List ℕ) → IsPiece p → decoded escapes.Plain (spelled p ++ rest) ≡ stands_for p ∷ decoded escapes.Plain rest
unfolding decoded
piece_decodes (itself b) rest h = rw (no_quote b h, no_backslash b h) refl
piece_decodes quote rest h = refl
piece_decodes backslash rest h = refl
piece_decodes newline rest h = refl
piece_decodes (hexadecimal high low) rest h =
    let a = worth_is high h.0 in
    let b = worth_is low h.1 in
    let m : worth high % 16 ≡ worth high = omega (arith, a.1) in
    rw (a.0, b.0, m) refl

spelling_runs : (ps : List Piece) → ArePieces ps → runs Inside (spelling ps ++ 34 ∷ []) ≡ Some Closed
spelling_runs [] h = refl
spelling_runs (p ∷ ps) h = ap (runs Inside) (append_assoc (spelled p) (spelling ps) (34 ∷ [])) ∙ piece_runs p (spelling ps ++ 34 ∷ []) h.0 ∙ spelling_runs ps h.1

spelling_decodes : (ps : List Piece) → ArePieces ps → decoded escapes.Plain (spelling ps ++ 34 ∷ []) ≡ map stands_for ps
unfolding decoded
spelling_decodes [] h = refl
spelling_decodes (p ∷ ps) h =
    ap (decoded escapes.Plain) (append_assoc (spelled p) (spelling ps) (34 ∷ [])) ∙ piece_decodes p (spelling ps ++ 34 ∷ []) h.0 ∙ ap (λ (x : List ℕ). stands_for p ∷ x) (spelling_decodes ps h.1)

pub pieces_read : (ps : List Piece) → ArePieces ps → IsWordFor (between_quotes ps) (map stands_for ps)
unfolding decoded
pieces_read ps h =
    let rest = spelling ps ++ 34 ∷ [] in
    let k : 0 + 1 + length rest ≡ suc (length rest) = omega arith in
    let w = one_word 34 rest 0 Inside Closed refl refl (spelling_runs ps h) refl in
    (w ∙ ap (λ (n : ℕ). word 0 (34 ∷ rest) (ended n)) k, spelling_decodes ps h)

-- ---- spelling

-- the bytes up to a closing quote are pieces
abbrev PiecesOf : List ℕ → Type 0
PiecesOf bs = (ps : List Piece) × ArePieces ps × (bs ≡ spelling ps ++ 34 ∷ [])

-- what the bytes of a word are from a part of it on, up to its end
abbrev Held : Part → List ℕ → Type 0
Held Bare bs = list_all is_bare bs ≡ true
Held Inside bs = PiecesOf bs
Held Escape bs = PiecesOf (92 ∷ bs)
Held High bs = PiecesOf (92 ∷ 120 ∷ bs)
Held Low bs = (h : ℕ) → is_hex h ≡ true → PiecesOf (92 ∷ 120 ∷ h ∷ bs)
Held Closed bs = bs ≡ []

more : (p : Piece) (bs : List ℕ) → IsPiece p → PiecesOf bs → PiecesOf (spelled p ++ bs)
more p bs i h = (p ∷ h.0, (i, h.1), ap (λ (x : List ℕ). spelled p ++ x) h.2 ∙ sym (append_assoc (spelled p) (spelling h.0) (34 ∷ [])))

or_cases : (a b : Bool) → (a || b) ≡ true → (a ≡ true) ⊎ (b ≡ true)
or_cases true b e = inl refl
or_cases false b e = inr e

-- the letter behind a backslash
letter : (b : ℕ) (bs : List ℕ) → (eqb b 34 || eqb b 92 || eqb b 110) ≡ true → PiecesOf bs → PiecesOf (92 ∷ b ∷ bs)
letter b bs e h =
    elim (or_cases (eqb b 34 || eqb b 92) (eqb b 110) e) [
      | inl two ↦ elim (or_cases (eqb b 34) (eqb b 92) two) [
        | inl is ↦ rw (eqb-true b 34 is) (more quote bs tt h)
        | inr is ↦ rw (eqb-true b 92 is) (more backslash bs tt h)
      ]
      | inr is ↦ rw (eqb-true b 110 is) (more newline bs tt h)
    ]

some_is : (x y : Part) → (let r : Option Part = Some x in r) ≡ Some y → x ≡ y
some_is x y e = cc

-- a word may not end in that part
ends_open : (part last : Part) → may_end part ≡ false → (let r : Option Part = Some part in r) ≡ Some last → may_end last ≡ true → ⊥
ends_open part last shut e may = let p = some_is part last e in false≢true (sym shut ∙ ap may_end p ∙ may)

-- a word that goes on to its end
held : (part last : Part) (bs : List ℕ) → runs part bs ≡ Some last → may_end last ≡ true → Held part bs
held Bare last [] e may = refl
held Bare last (b ∷ bs) e may =
    elim (cases_bool (is_bare b)) [
      | inl bare ↦ rw bare (held Bare last bs (rw bare at e) may)
      | inr not_so ↦ absurd (let n = rw not_so at e in let x = n in cc)
    ]
held Inside last [] e may = absurd (ends_open Inside last refl e may)
held Inside last (b ∷ bs) e may =
    elim (cases_bool (eqb b 34)) [
      | inl closes ↦
          let over = held Closed last bs (rw closes at e) may in
          ([], tt, rw (eqb-true b 34 closes, over) refl)
      | inr later ↦ elim (cases_bool (eqb b 92)) [
        | inl slash ↦ rw (eqb-true b 92 slash) (held Escape last bs (rw (later, slash) at e) may)
        | inr other ↦ elim (cases_bool (is_plain b)) [
          | inl plain ↦ more (itself b) bs plain (held Inside last bs (rw (plain, later, other) at e) may)
          | inr not_so ↦ absurd (let n = rw (not_so, later, other) at e in let x = n in cc)
        ]
      ]
    ]
held Escape last [] e may = absurd (ends_open Escape last refl e may)
held Escape last (b ∷ bs) e may =
    elim (cases_bool (eqb b 120)) [
      | inl x ↦ rw (eqb-true b 120 x) (held High last bs (rw x at e) may)
      | inr other ↦ elim (cases_bool (eqb b 34 || eqb b 92 || eqb b 110)) [
        | inl some ↦ letter b bs some (held Inside last bs (rw (other, some) at e) may)
        | inr not_so ↦ absurd (let n = rw (other, not_so) at e in let y = n in cc)
      ]
    ]
held High last [] e may = absurd (ends_open High last refl e may)
held High last (b ∷ bs) e may =
    elim (cases_bool (is_hex b)) [
      | inl hex ↦ held Low last bs (rw hex at e) may b hex
      | inr not_so ↦ absurd (let n = rw not_so at e in let x = n in cc)
    ]
held Low last [] e may = absurd (ends_open Low last refl e may)
held Low last (b ∷ bs) e may = λ h is.
    elim (cases_bool (is_hex b)) [
      | inl hex ↦ more (hexadecimal h b) bs (is, hex) (held Inside last bs (rw hex at e) may)
      | inr not_so ↦ absurd (let n = rw not_so at e in let x = n in cc)
    ]
held Closed last [] e may = refl
held Closed last (b ∷ bs) e may = absurd cc

-- a word by its first byte
pub ran_spelled : (b : ℕ) (bs : List ℕ) (first last : Part) → opens b ≡ Some first → runs first bs ≡ Some last → may_end last ≡ true → IsBareText (b ∷ bs) ⊎ IsQuotedText (b ∷ bs)
ran_spelled b bs first last o r may =
    elim (cases_bool (eqb b 34)) [
      | inl q ↦
          let i : Inside ≡ first = some_is Inside first (rw q at o) in
          let h : PiecesOf bs = held Inside last bs (rw i r) may in
          inr (h.0, h.1, ap (λ (c : ℕ). c ∷ bs) (eqb-true b 34 q) ∙ ap (λ (x : List ℕ). 34 ∷ x) h.2)
      | inr other ↦ elim (cases_bool (is_bare b)) [
        | inl bare ↦
            let i : Bare ≡ first = some_is Bare first (rw (bare, other) at o) in
            inl (omega arith, rw bare (held Bare last bs (rw i r) may))
        | inr not_so ↦ absurd (let n = rw (not_so, other) at o in let x = n in cc)
      ]
    ]
