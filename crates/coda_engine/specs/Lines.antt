-- The lines of a script and its limits. A line is what `lines` of std gives: the bytes before a newline, less a
-- carriage return before that newline; what stands behind the last newline is a line too, where it isn't empty.
use Rattle.std.specs.Prelude.{◌≡◌, ◌≢◌, ℕ, ◌≤◌, ◌⊎◌, List, [], ◌∷◌, ◌++◌, length, All}
use Rattle.std.specs.Str.Lines.{lines}

-- no byte is a newline
abbrev pub HasNoNewline : List ℕ → Type 0
HasNoNewline bytes = All (λ b. b ≢ 10) bytes

-- nothing, or lines that each have their newline
abbrev pub IsWholeLines : List ℕ → Type 0
IsWholeLines bytes = (bytes ≡ []) ⊎ ((before : List ℕ) × (bytes ≡ before ++ 10 ∷ []))

-- at most 16 MiB and 200,000 lines
pub record IsWithinLimits (script : List ℕ) : Type 0 where
  pub bytes : length script ≤ 16777216
  pub lines : length (lines script) ≤ 200000
