-- The first byte of a line.
use Rattle.std.proofs.Common.{◌≡◌, ℕ, ◌+◌, ◌<◌, ◌≤◌, true, false, List, length, get_or, drop, Some, None, refl}
use Rattle.coda_text.specs.Words.{is_separator}
use Rattle.coda_text.proofs.Scan.{at_byte, at_end}
use Rattle.coda_script.specs.Lines.{first_byte}

pub first_goes : (line : List ℕ) (i : ℕ) → i < length line → is_separator (get_or line i 0) ≡ true → first_byte (drop i line) ≡ first_byte (drop (i + 1) line)
unfolding first_byte
first_goes line i lt e = rw (at_byte line i lt, e) refl

pub first_stops : (line : List ℕ) (i : ℕ) → i < length line → is_separator (get_or line i 0) ≡ false → first_byte (drop i line) ≡ Some (get_or line i 0)
unfolding first_byte
first_stops line i lt e = rw (at_byte line i lt, e) refl

pub first_ends : (line : List ℕ) (i : ℕ) → length line ≤ i → first_byte (drop i line) ≡ None
unfolding first_byte
first_ends line i le = rw (at_end line i le) refl
