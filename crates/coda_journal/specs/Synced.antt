-- A write or a cut and the sync behind it.
use Rattle.std.specs.Prelude.{◌≡◌, ◌⊎◌, ℕ, ◌+◌, ◌-◌, ◌<◌, ◌≤◌, List, length, take, Result, OnOk}
use Rattle.coda_disk.specs.Told.{Told, put, HoldsPast, Torn, Cut, Only, LeavesOnly}

-- new is old with these bytes at this offset
abbrev pub IsPut : List ℕ → ℕ → List ℕ → List ℕ → Type 0
IsPut old at bytes new = new ≡ put old at bytes

-- an old image, or one after this step
abbrev pub May : (List ℕ → List ℕ → Type 0) → (List ℕ → Type 0) → List ℕ → Type 0
May step old c = old c ⊎ ((d : List ℕ) × old d × step d c)

pub record WroteSynced {T E : Type 0} (at : ℕ) (bytes : List ℕ) (old new : Told) (result : Result T E) : Type 0 where
  pub honest : new.honest
  pub leaves : at ≤ length old.seen → LeavesOnly old new (May (Torn at (length bytes)) old.may_leave)
  pub written : at ≤ length old.seen → OnOk result (IsPut old.seen at bytes new.seen × Only new.seen new.may_leave)
  pub leaves_past : length old.seen < at → LeavesOnly old new (May (Torn (length old.seen) (at + length bytes - length old.seen)) old.may_leave)
  pub written_past : length old.seen < at → OnOk result (HoldsPast old.seen at bytes new.seen × Only new.seen new.may_leave)

pub record CutSynced {T E : Type 0} (size : ℕ) (old new : Told) (result : Result T E) : Type 0 where
  pub honest : new.honest
  pub leaves : size ≤ length old.seen → LeavesOnly old new (May (Cut size) old.may_leave)
  pub written : size ≤ length old.seen → OnOk result ((new.seen ≡ take size old.seen) × Only new.seen new.may_leave)
