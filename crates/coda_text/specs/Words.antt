-- How a line falls into words.
use Rattle.std.specs.Prelude.{ℕ, ◌+◌, Bool, true, false, ◌&&◌, ◌||◌, not, nat_le, ◌==◌, if◌then◌else◌, List, [], ◌∷◌, ◌++◌, drop, Option, Some, None}
use Rattle.std.specs.Option.{option_map_or}
use Rattle.coda_text.specs.declared.words.Part.{Part}
use Rattle.coda_text.specs.declared.words.Part.TheVariants.{Bare, Inside, Escape, High, Low, Closed}

-- a space or a tab
abbrev pub is_separator : ℕ → Bool
is_separator b = b == 32 || b == 9

-- what stands in a bare word: 0x21 to 0xFF other than 0x7F and the quote
abbrev pub is_bare : ℕ → Bool
is_bare b = nat_le 33 b && not (b == 127) && not (b == 34)

-- what stands for itself between quotes: 0x20 to 0xFF other than 0x7F, the quote and the backslash
abbrev pub is_plain : ℕ → Bool
is_plain b = nat_le 32 b && not (b == 127) && not (b == 34) && not (b == 92)

-- a hexadecimal digit, in either case
abbrev pub is_hex : ℕ → Bool
is_hex b = (nat_le 48 b && nat_le b 57) || (nat_le 65 b && nat_le b 70) || (nat_le 97 b && nat_le b 102)

-- the part of a word that its first byte opens
abbrev pub opens : ℕ → Option Part
opens b = if b == 34 then Some Inside else (if is_bare b then Some Bare else None)

-- the part of a word behind one more byte
abbrev pub goes_on : Part → ℕ → Option Part
goes_on Bare b = if is_bare b then Some Bare else None
goes_on Inside b = if b == 34 then Some Closed else (if b == 92 then Some Escape else (if is_plain b then Some Inside else None))
goes_on Escape b = if b == 120 then Some High else (if b == 34 || b == 92 || b == 110 then Some Inside else None)
goes_on High b = if is_hex b then Some Low else None
goes_on Low b = if is_hex b then Some Inside else None
goes_on Closed b = None

-- whether a word may end there
abbrev pub may_end : Part → Bool
may_end Bare = true
may_end Closed = true
may_end Inside = false
may_end Escape = false
may_end High = false
may_end Low = false

-- a word: where it begins, and its bytes
pub record Word : Type 0 where
  pub at : ℕ
  pub text : List ℕ

-- what a line, or the rest of one, falls into: its words up to the line's end or to the first that is none; where that
-- is; and, of what is no word, the byte that breaks it, or the line's end
pub record Split : Type 0 where
  pub words : List Word
  pub end : ℕ
  pub breaks : Option ℕ

-- no word, up to the line's end
abbrev pub ended : ℕ → Split
ended at = record { words = []; end = at; breaks = None }

-- no word, and what begins there is none, since a byte breaks it
abbrev pub broken : ℕ → ℕ → Split
broken start at = record { words = []; end = start; breaks = Some at }

-- a word, and what stands behind it
abbrev pub word : ℕ → List ℕ → Split → Split
word at text rest = record { words = record { at = at; text = text } ∷ rest.words; end = rest.end; breaks = rest.breaks }

-- what stands behind the first word
abbrev pub rest_of : Split → Split
rest_of split = record { words = drop 1 split.words; end = split.end; breaks = split.breaks }

-- where in a line a byte stands: between words, or in one that began there, has these bytes so far and is in this part
pub data Place : Type 0 where
  gap : Place
  under_way : ℕ → List ℕ → Part → Place

-- the words of a line from a place on, whose first byte stands there, and which has these bytes
unfoldable pub scan : Place → ℕ → List ℕ → Split
scan gap at [] = ended at
scan gap at (b ∷ bs) = if is_separator b then scan gap (at + 1) bs else option_map_or (λ part. scan (under_way at (b ∷ []) part) (at + 1) bs) (opens b) (broken at at)
scan (under_way start text part) at [] = if may_end part then word start text (ended at) else broken start at
scan (under_way start text part) at (b ∷ bs) =
    if may_end part && is_separator b
    then word start text (scan gap (at + 1) bs)
    else option_map_or (λ next. scan (under_way start (text ++ b ∷ []) next) (at + 1) bs) (goes_on part b) (broken start at)

-- the words of a line
abbrev pub split_of : List ℕ → Split
split_of line = scan gap 0 line
