-- Disks on which no actor was ever made.
use Rattle.std.specs.Prelude.{ℕ, List}
use Rattle.coda_disk.specs.Told.{Told}
use Rattle.coda_journal.specs.Image.{IsUnmade}

-- No actor was ever made on the disk: it is honest, and no image that a crash now may leave has a header.
pub record IsBlank (told : Told) : Type 0 where
  pub honest : told.honest
  pub each : (image : List ℕ) → told.may_leave image → IsUnmade image

abbrev pub AreBlank : (ℕ → Told) → Type 0
AreBlank has = (number : ℕ) → IsBlank (has number)
