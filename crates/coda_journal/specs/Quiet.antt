-- Calls that wrote nothing.
use Rattle.std.specs.Prelude.{◌≡◌, List, ℕ}
use Rattle.coda_disk.specs.Told.{Told, LeavesOnly}

-- The same is read, and each image since the start is one that a crash might have left then.
pub record Quiet (old new : Told) : Type 0 where
  pub honest : new.honest
  pub seen : new.seen ≡ old.seen
  pub crash : (c : List ℕ) → new.may_leave c → old.may_leave c
  pub leaves : LeavesOnly old new old.may_leave
