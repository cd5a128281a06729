-- What every format promises, in words of bytes and of what they spell.
use Rattle.std.specs.Prelude.{◌≡◌, ◌≤◌, ◌<◌, ◌⊎◌, ℕ, List, [], ◌++◌, length, get_or, take, Ok, Err}
use Rattle.coda_values.specs.Form.{Format}
use Rattle.coda_values.specs.Spelling.{Spells, whole}

-- numbers that are bytes
abbrev pub AreBytes : List ℕ → Type 0
AreBytes bytes = (i : ℕ) → get_or bytes i 0 < 256

-- Bytes are read exactly where they are a spelling, as the value that they spell. A value has one spelling, and none begins
-- another. A refusal names the first field or byte that breaks the format: whatever follows the bytes, the fault stays
-- where it is, so nothing that begins with them is a spelling; and the bytes before that place are cut short, or they are a
-- spelling and nothing may follow it.
pub record IsExact {A : Type 0} (f : Format A) : Type 0 where
  pub found : (bytes : List ℕ) (x : A) → AreBytes bytes → whole f bytes ≡ Ok x → Spells f bytes x
  pub only : (bytes : List ℕ) (x : A) → Spells f bytes x → whole f bytes ≡ Ok x
  pub one : (a b : List ℕ) (x : A) → Spells f a x → Spells f b x → a ≡ b
  pub apart : (a b rest : List ℕ) (x y : A) → Spells f a x → Spells f b y → a ++ rest ≡ b → (x ≡ y) × (rest ≡ [])
  pub stays : (bytes more : List ℕ) (at : ℕ) → at < length bytes → whole f bytes ≡ Err at → whole f (bytes ++ more) ≡ Err at
  pub first : (bytes : List ℕ) (at : ℕ) → whole f bytes ≡ Err at → (at ≤ length bytes) × ((whole f (take at bytes) ≡ Err at) ⊎ ((x : A) × (whole f (take at bytes) ≡ Ok x)))
