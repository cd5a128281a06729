-- What each step over a line finds, as the code goes.
use Rattle.std.specs.Prelude.{◌≡◌, ℕ, ◌+◌, ◌<◌, ◌≤◌, Bool, false, ◌&&◌, ◌||◌, nat_le, List, length, drop, slice_range, slice_index}
use Rattle.coda_text.specs.declared.words.Part.{Part}
use Rattle.coda_text.specs.declared.words.Next.{Next}
use Rattle.coda_text.specs.declared.words.Next.TheVariants.{End, Bad, Found}
use Rattle.coda_text.specs.Words.{is_separator, may_end, Split, ended, broken, word, gap, under_way, scan}

-- whether what is in that part ends there: the line does, or a separator stands where a word may end
abbrev pub is_end : List ℕ → ℕ → Part → Bool
is_end line at part = nat_le (length line) at || (may_end part && is_separator (slice_index line at))

-- the words of a line from a byte between words on
abbrev pub split_from : List ℕ → ℕ → Split
split_from line at = scan gap at (drop at line)

-- what stands next is what the line has from there on
abbrev pub Finds : List ℕ → ℕ → Next → Type 0
Finds line from End = split_from line from ≡ ended (length line)
Finds line from (Bad start at) = (start ≤ length line) × (split_from line from ≡ broken start at)
Finds line from (Found start end) = (from ≤ start) × (start < end) × (end ≤ length line) × (split_from line from ≡ word start (slice_range line start end) (split_from line end))

-- the line's end, or a byte that is no separator
abbrev pub AtWord : List ℕ → ℕ → Type 0
AtWord line at = at < length line → is_separator (slice_index line at) ≡ false

-- the words of a line from the second byte of one on
abbrev pub rest_of_word : List ℕ → ℕ → Part → Split
rest_of_word line start part = scan (under_way start (slice_range line start (start + 1)) part) (start + 1) (drop (start + 1) line)

-- what stands next is the word that began there, or what is none
abbrev pub Finishes : List ℕ → ℕ → Part → Next → Type 0
Finishes line start part End = ⊥
Finishes line start part (Bad from at) = (from ≤ length line) × (rest_of_word line start part ≡ broken from at)
Finishes line start part (Found at end) = (at ≡ start) × (start < end) × (end ≤ length line) × (rest_of_word line start part ≡ word start (slice_range line start end) (split_from line end))

-- what a line has from what stands next on
abbrev pub split_next : List ℕ → Next → Split
split_next line End = ended (length line)
split_next line (Bad start at) = broken start at
split_next line (Found start end) = word start (slice_range line start end) (split_from line end)

-- what stands next lies within the line
abbrev pub IsWithin : List ℕ → Next → Type 0
IsWithin line End = Unit {0}
IsWithin line (Bad start at) = start ≤ length line
IsWithin line (Found start end) = (start ≤ end) × (end ≤ length line)
