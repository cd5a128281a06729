-- A disk that is armed lets so many further calls through, and none after them until a crash.
use Rattle.std.specs.Prelude.{◌≡◌, ℕ, ◌-◌, Option, None, Some, Result, IsErr}

-- how many further calls pass after one more
abbrev pub one_fewer : Option ℕ → Option ℕ
one_fewer None = None
one_fewer (Some passes) = Some (passes - 1)

-- A call uses up one of the calls that pass; where none was left, it fails.
pub record Passes {T E : Type 0} (old new : Option ℕ) (result : Result T E) : Type 0 where
  pub fewer : new ≡ one_fewer old
  pub stopped : old ≡ Some 0 → IsErr result
