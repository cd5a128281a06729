-- What a length in bytes spells.
use Rattle.std.proofs.Common.{◌≡◌, ℕ, zero, suc, ◌%◌, ◌^◌, ◌<◌, ◌≤◌, List, [], ◌∷◌, ◌++◌, length, get_or, take, refl, sym, ◌∙◌, ap, arith}
use Rattle.std.proofs.lemmas.Nat.{from_be_bytes-to_be_bytes_4, be_bytes_4}
use Rattle.std.specs.Int.{Width, w32, byte_len, to_be_bytes, from_be_bytes}
use Rattle.coda_journal.specs.Lengths.{limit, length_bytes, length_in, IsBytes}

-- what the reading of entries needs of a width
pub record Spells (width : Width) : Type 0 where
  pub size : (n : ℕ) → length (length_bytes width n) ≡ byte_len width
  pub reads : (n : ℕ) (rest : List ℕ) → n < limit width → length_in width (length_bytes width n ++ rest) ≡ n
  pub writes : (bytes : List ℕ) → byte_len width ≤ length bytes → IsBytes bytes → length_bytes width (length_in width bytes) ≡ take (byte_len width) bytes
  pub below : (bytes : List ℕ) → IsBytes bytes → length_in width bytes < limit width

size_4 : (n : ℕ) → length (length_bytes w32 n) ≡ 4
unfolding length_bytes
size_4 n = refl

reads_4 : (n : ℕ) (rest : List ℕ) → n < 2 ^ 32 → length_in w32 (length_bytes w32 n ++ rest) ≡ n
unfolding length_bytes length_in
reads_4 n rest lt = let same : n % 2 ^ 32 ≡ n = omega arith in ap (λ (m : ℕ). from_be_bytes w32 (to_be_bytes w32 m)) same ∙ from_be_bytes-to_be_bytes_4 n lt

first_4 : (bytes : List ℕ) → 4 ≤ length bytes → take 4 bytes ≡ get_or bytes 0 0 ∷ get_or bytes 1 0 ∷ get_or bytes 2 0 ∷ get_or bytes 3 0 ∷ []
first_4 [] le = absurd (omega arith)
first_4 (a ∷ []) le = absurd (omega arith)
first_4 (a ∷ b ∷ []) le = absurd (omega arith)
first_4 (a ∷ b ∷ c ∷ []) le = absurd (omega arith)
first_4 (a ∷ b ∷ c ∷ d ∷ rest) le = refl

below_4 : (bytes : List ℕ) → IsBytes bytes → length_in w32 bytes < 2 ^ 32
unfolding length_in
below_4 bytes small = omega (arith, small 0, small 1, small 2, small 3)

writes_4 : (bytes : List ℕ) → 4 ≤ length bytes → IsBytes bytes → length_bytes w32 (length_in w32 bytes) ≡ take 4 bytes
unfolding length_bytes length_in
writes_4 bytes le small =
    let first = get_or bytes 0 0 ∷ get_or bytes 1 0 ∷ get_or bytes 2 0 ∷ get_or bytes 3 0 ∷ [] in
    let n = from_be_bytes w32 bytes in
    let fits : n % 2 ^ 32 ≡ n = omega (arith, small 0, small 1, small 2, small 3) in
    ap (λ (m : ℕ). to_be_bytes w32 m) fits ∙ be_bytes_4 first n refl (each small) refl ∙ sym (first_4 bytes le)
  where
    each : IsBytes bytes → (i : ℕ) → get_or (get_or bytes 0 0 ∷ get_or bytes 1 0 ∷ get_or bytes 2 0 ∷ get_or bytes 3 0 ∷ []) i 0 < 256
    each small zero = small 0
    each small (suc zero) = small 1
    each small (suc (suc zero)) = small 2
    each small (suc (suc (suc zero))) = small 3
    each small (suc (suc (suc (suc i)))) = omega arith

pub spells_4 : Spells w32
spells_4 = record { size = size_4; reads = reads_4; writes = writes_4; below = below_4 }
