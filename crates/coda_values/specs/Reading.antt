-- Reading from left to right: what the bytes say and the bytes behind it, or how many bytes are left from the first
-- place on that breaks the format.
use Rattle.std.specs.Prelude.{ℕ, suc, nat_lt, if◌then◌else◌, List, length, take, drop, Result, Ok, Err}
use Rattle.std.specs.Int.{byte_len, from_be_bytes}
use Rattle.coda_values.specs.Form.{Size, one, width_of, Form, gives, unknown, number, raw, tagged, such, part}

infixl 10 ◌>>=◌
-- one reading after another: the first fault is that of the whole
abbrev pub ◌>>=◌ : {A B : Type 0} → Result A ℕ → (A → Result B ℕ) → Result B ℕ
(Ok x) >>= f = f x
(Err left) >>= f = Err left

-- so many bytes; where they are cut short, nothing is left
abbrev pub bytes_at : ℕ → List ℕ → Result (List ℕ × List ℕ) ℕ
bytes_at n bytes = if nat_lt (length bytes) n then Err 0 else Ok (take n bytes, drop n bytes)

-- a number
unfoldable pub number_at : Size → List ℕ → Result (ℕ × List ℕ) ℕ
number_at size bytes = bytes_at (byte_len (width_of size)) bytes >>= λ x. Ok (from_be_bytes (width_of size) x.0, x.1)

-- what the bytes say in a form
abbrev pub read : {A : Type 0} → Form A → List ℕ → Result (A × List ℕ) ℕ
read (gives x) bytes = Ok (x, bytes)
read unknown bytes = Err (suc (length bytes))
read (number size) bytes = number_at size bytes
read (raw n) bytes = bytes_at n bytes
read (tagged table) bytes = number_at one bytes >>= λ t. read (table t.0) t.1
read (such test form) bytes = read form bytes >>= λ x. if test x.0 then Ok x else Err (length bytes)
read (part form piece next) bytes = read form bytes >>= λ x. read (next x.0) x.1
