-- A line as gaps and words in their order.
use Rattle.std.specs.Prelude.{◌≡◌, ℕ, ◌+◌, Bool, true, List, [], ◌∷◌, ◌++◌, length, None}
use Rattle.std.specs.List.{list_all}
use Rattle.coda_text.specs.Words.{Word, Split, is_separator, split_of}

-- spaces and tabs alone
abbrev pub IsGap : List ℕ → Type 0
IsGap bytes = list_all is_separator bytes ≡ true

-- nothing, or bytes that begin with a separator
abbrev pub is_apart : List ℕ → Bool
is_apart [] = true
is_apart (b ∷ bs) = is_separator b

-- Bytes that begin there are these words, in their order, each behind a gap and at its column, and then what is left; behind a
-- word stands a separator or nothing.
abbrev pub AreLaid : ℕ → List Word → List ℕ → List ℕ → Type 0
AreLaid at [] bytes left = bytes ≡ left
AreLaid at (w ∷ ws) bytes left =
    (gap : List ℕ) × (rest : List ℕ) × (bytes ≡ gap ++ w.text ++ rest) × IsGap gap × (w.at ≡ at + length gap) × (is_apart rest ≡ true)
    × AreLaid (w.at + length w.text) ws rest left

-- what is left behind the words: a gap up to the line's end, or a gap and then what is no word
abbrev pub IsLeft : ℕ → Split → List ℕ → Type 0
IsLeft size split left = (gap : List ℕ) × (rest : List ℕ) × (left ≡ gap ++ rest) × IsGap gap × (split.end + length rest ≡ size) × (split.breaks ≡ None → rest ≡ [])

-- Each line is the gaps and the words that it falls into.
abbrev pub LinesAreTheirWords : Type 0
LinesAreTheirWords = (line : List ℕ) → (left : List ℕ) × AreLaid 0 (split_of line).words line left × IsLeft (length line) (split_of line) left
