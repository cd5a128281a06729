-- The hash of a fid's numbers, one after the other.
use Rattle.std.specs.Prelude.{ℕ, ◌+◌, ◌*◌, ◌/◌, ◌%◌, ◌^◌, List, length, if◌then◌else◌, nat_eq, slice_index, bit_and, bit_xor}
use Rattle.coda_tree.specs.declared.hasher.FidHasher.{FidHasher}

-- before the first number
abbrev pub no_numbers : FidHasher
no_numbers = record { before = 0; last = 0 }

-- four bytes as a number, the lowest first; other lengths count as 0
unfoldable pub number_of : List ℕ → ℕ
number_of bytes = if nat_eq (length bytes) 4 then slice_index bytes 0 + slice_index bytes 1 * 256 + slice_index bytes 2 * 65536 + slice_index bytes 3 * 16777216 else 0

-- what was read, and one number more
abbrev pub with_number : FidHasher → List ℕ → FidHasher
with_number h bytes = record { before = (bit_xor h.before h.last * 0x9e37_79b9_7f4a_7c15) % 2 ^ 64; last = number_of bytes }

-- the hash: numbers that differ in the two lowest bits of the last alone differ in two high bits, and else all is mixed
abbrev pub hash_of : FidHasher → ℕ
hash_of h = bit_xor ((bit_xor h.before (h.last / 4) * 0x9e37_79b9_7f4a_7c15) % 2 ^ 64 / 2 ^ 32) (bit_and h.last 3 * 16777216)
