-- A source and a sink over a reader and a writer of std.
use Rattle.std.specs.Prelude.{ℕ}

-- a reader or a writer of std, and how many of its calls were faults
pub record Handle (T : Type 0) : Type 0 where
  pub inner : T
  pub faults : ℕ

-- no call was made yet
abbrev pub handle_of : {T : Type 0} → T → Handle T
handle_of inner = record { inner = inner; faults = 0 }
