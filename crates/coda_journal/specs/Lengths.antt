-- Numbers in a fixed count of bytes, the highest first.
use Rattle.std.specs.Prelude.{ℕ, ◌%◌, ◌^◌, ◌<◌, List, get_or}
use Rattle.std.specs.Int.{Width, byte_len, to_be_bytes, from_be_bytes}

-- the first number that this width doesn't hold
abbrev pub limit : Width → ℕ
limit width = 256 ^ byte_len width

-- a length in so many bytes, modulo what they hold
unfoldable pub length_bytes : Width → ℕ → List ℕ
length_bytes width n = to_be_bytes width (n % limit width)

-- the number that the first bytes spell
unfoldable pub length_in : Width → List ℕ → ℕ
length_in width bytes = from_be_bytes width bytes

abbrev pub IsBytes : List ℕ → Type 0
IsBytes bytes = (i : ℕ) → get_or bytes i 0 < 256
