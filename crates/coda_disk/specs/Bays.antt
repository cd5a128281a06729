-- What the calls of a bay do.
use Rattle.std.specs.Prelude.{◌≡◌, ◌≢◌, ℕ, ◌+◌, ◌-◌, ◌^◌, min, Bool, List, Option, None}
use Rattle.coda_disk.specs.Told.{Told, Kept, Only}

-- a sum that stops at its last value
abbrev pub plus : ℕ → ℕ → ℕ
plus a b = min (a + b) (2 ^ 64 - 1)

-- This number is out, or not, and each other one is as it was.
pub record PutsOut (number : ℕ) (is : Bool) (old new : ℕ → Bool) : Type 0 where
  pub this : new number ≡ is
  pub others : (k : ℕ) → k ≢ number → new k ≡ old k

-- Each disk that the bay has is as it was.
abbrev pub KeepsAll : (ℕ → Told) → (ℕ → Told) → Type 0
KeepsAll old new = (k : ℕ) → (old k).honest → Kept (old k) (new k)

-- Each disk that the bay has, but that of this number, is as it was.
abbrev pub KeepsOthers : ℕ → (ℕ → Told) → (ℕ → Told) → Type 0
KeepsOthers number old new = (k : ℕ) → k ≢ number → (old k).honest → Kept (old k) (new k)

-- A crash of the old disk left this image, and the new disk has it and nothing else.
pub record Crashed (image : List ℕ) (old new : Told) : Type 0 where
  pub allowed : old.may_leave image
  pub honest : new.honest
  pub seen : new.seen ≡ image
  pub only : Only image new.may_leave

-- No fault and no `arm` call is counted, and every call passes.
abbrev pub IsRested : ℕ → ℕ → Option ℕ → Type 0
IsRested faults arms passes = (faults ≡ 0) × (arms ≡ 0) × (passes ≡ None)
