-- Decimal and octal numbers.
use Rattle.std.specs.Prelude.{ℕ, Bool, false, ◌+◌, ◌-◌, ◌*◌, ◌^◌, ◌&&◌, nat_lt, nat_le, if◌then◌else◌, List, [], ◌∷◌, length, Option, Some, None}
use Rattle.std.specs.Option.{option_map_or}

-- a number with one more decimal digit, where that is one and the number stays below 2^64
abbrev pub with_digit : ℕ → ℕ → Option ℕ
with_digit n d = if nat_le 48 d && nat_le d 57 && nat_lt (n * 10 + (d - 48)) (2 ^ 64) then Some (n * 10 + (d - 48)) else None

-- a number with more decimal digits
unfoldable pub number_from : ℕ → List ℕ → Option ℕ
number_from n [] = Some n
number_from n (d ∷ ds) = option_map_or (λ m. number_from m ds) (with_digit n d) None

-- the number that a word is: 1 to 20 decimal digits, below 2^64
abbrev pub number_of : List ℕ → Option ℕ
number_of word = if nat_le 1 (length word) && nat_le (length word) 20 then number_from 0 word else None

-- whether a word begins with a digit
abbrev pub begins_with_digit : List ℕ → Bool
begins_with_digit [] = false
begins_with_digit (b ∷ bs) = nat_le 48 b && nat_le b 57

-- a mode with one more octal digit, where that is one and the mode stays within 7777
abbrev pub with_octal : ℕ → ℕ → Option ℕ
with_octal n d = if nat_le 48 d && nat_le d 55 && nat_le (n * 8 + (d - 48)) 4095 then Some (n * 8 + (d - 48)) else None

-- a mode with more octal digits
unfoldable pub octal_from : ℕ → List ℕ → Option ℕ
octal_from n [] = Some n
octal_from n (d ∷ ds) = option_map_or (λ m. octal_from m ds) (with_octal n d) None

-- the mode that a word is: 1 to 5 octal digits, at most 7777
abbrev pub octal_of : List ℕ → Option ℕ
octal_of word = if nat_le 1 (length word) && nat_le (length word) 5 then octal_from 0 word else None
