-- Which bytes spell which value, and what becomes of bytes as a whole.
use Rattle.std.specs.Prelude.{◌≡◌, ℕ, ◌-◌, ◌==◌, if◌then◌else◌, List, length, Result, Ok, Err, IsTrue}
use Rattle.coda_values.specs.Form.{Format}
use Rattle.coda_values.specs.Reading.{◌>>=◌, read}

-- the value is within its limits, in its own bytes and in those of its parts
abbrev pub HasSpelling : {A : Type 0} → Format A → A → Type 0
HasSpelling f x = IsTrue (f.piece x).fits

-- the bytes are the value's spelling
abbrev pub Spells : {A : Type 0} → Format A → List ℕ → A → Type 0
Spells f bytes x = (bytes ≡ (f.piece x).bytes) × HasSpelling f x

-- nothing may be left
abbrev pub ended : {A : Type 0} → A → List ℕ → Result A ℕ
ended x rest = if length rest == 0 then Ok x else Err (length rest)

-- the offset of the place from which on so many bytes are left
abbrev pub placed : {A : Type 0} → ℕ → Result A ℕ → Result A ℕ
placed length (Ok x) = Ok x
placed length (Err left) = Err (length - left)

-- what the bytes say with nothing behind it, or how many are left from the first place on that breaks the format
abbrev pub alone : {A : Type 0} → Format A → List ℕ → Result A ℕ
alone f bytes = read f.form bytes >>= λ x. ended x.0 x.1

-- what the bytes as a whole say, or the offset of the first place that breaks the format
unfoldable pub whole : {A : Type 0} → Format A → List ℕ → Result A ℕ
whole f bytes = placed (length bytes) (alone f bytes)
