-- Words by the bytes that spell them: a bare word, and a quoted one as pieces, each of which stands for one byte.
use Rattle.std.specs.Prelude.{◌≡◌, ◌≤◌, ℕ, ◌+◌, ◌-◌, ◌*◌, ◌⊎◌, true, nat_le, if◌then◌else◌, List, [], ◌∷◌, ◌++◌, map, length}
use Rattle.std.specs.List.{list_all, AllByRecursion}
use Rattle.coda_text.specs.Words.{Word, is_bare, is_plain, is_hex, split_of}
use Rattle.coda_text.specs.Printed.{IsWordFor}

pub data Piece : Type 0 where
  -- a byte that stands for itself
  itself : ℕ → Piece
  -- `\"`
  quote : Piece
  -- `\\`
  backslash : Piece
  -- `\n`
  newline : Piece
  -- `\xHH`, by its two digits
  hexadecimal : ℕ → ℕ → Piece

-- how a piece is spelled
abbrev pub spelled : Piece → List ℕ
spelled (itself b) = b ∷ []
spelled quote = 92 ∷ 34 ∷ []
spelled backslash = 92 ∷ 92 ∷ []
spelled newline = 92 ∷ 110 ∷ []
spelled (hexadecimal high low) = 92 ∷ 120 ∷ high ∷ low ∷ []

-- what a hexadecimal digit is worth: `0` to `9`, `A` to `F`, `a` to `f`
abbrev pub worth : ℕ → ℕ
worth b = if nat_le b 57 then b - 48 else (if nat_le b 70 then b - 55 else b - 87)

-- the byte that a piece stands for
abbrev pub stands_for : Piece → ℕ
stands_for (itself b) = b
stands_for quote = 34
stands_for backslash = 92
stands_for newline = 10
stands_for (hexadecimal high low) = 16 * worth high + worth low

-- which pieces there are
abbrev pub IsPiece : Piece → Type 0
IsPiece (itself b) = is_plain b ≡ true
IsPiece quote = Unit {0}
IsPiece backslash = Unit {0}
IsPiece newline = Unit {0}
IsPiece (hexadecimal high low) = (is_hex high ≡ true) × (is_hex low ≡ true)

abbrev pub ArePieces : List Piece → Type 0
ArePieces pieces = AllByRecursion IsPiece pieces

-- pieces one after the other
abbrev pub spelling : List Piece → List ℕ
spelling [] = []
spelling (p ∷ ps) = spelled p ++ spelling ps

-- pieces between quotes
abbrev pub between_quotes : List Piece → List ℕ
between_quotes pieces = 34 ∷ (spelling pieces ++ 34 ∷ [])

-- bytes of a bare word, one at least
abbrev pub IsBareText : List ℕ → Type 0
IsBareText text = (1 ≤ length text) × (list_all is_bare text ≡ true)

-- some pieces between quotes
abbrev pub IsQuotedText : List ℕ → Type 0
IsQuotedText text = (pieces : List Piece) × ArePieces pieces × (text ≡ between_quotes pieces)

-- Pieces between quotes are one word of a line, and stand for the bytes that they stand for one by one.
abbrev pub PiecesAreRead : Type 0
PiecesAreRead = (pieces : List Piece) → ArePieces pieces → IsWordFor (between_quotes pieces) (map stands_for pieces)

-- Each word of a line is bare, or some pieces between quotes.
abbrev pub WordsAreSpelled : Type 0
WordsAreSpelled = (line : List ℕ) → AllByRecursion (λ (w : Word). IsBareText w.text ⊎ IsQuotedText w.text) (split_of line).words
