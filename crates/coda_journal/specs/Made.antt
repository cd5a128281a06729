-- The making of a disk anew.
use Rattle.std.specs.Prelude.{◌⊎◌, [], Result, OnOk}
use Rattle.coda_disk.specs.Told.{Told, LeavesOnly}
use Rattle.coda_journal.specs.Header.{area_bytes}
use Rattle.coda_journal.specs.Image.{ReadsAs}
use Rattle.coda_journal.specs.declared.header.Header.{Header}
use Rattle.coda_journal.specs.Open.{IsOpen}

-- Each image since is an old one or reads as the empty list.
pub record Makes {T E : Type 0} (header : Header) (old new : Told) (result : Result T E) : Type 0 where
  pub honest : new.honest
  pub leaves : LeavesOnly old new (λ c. old.may_leave c ⊎ ReadsAs header [] c)
  pub done : OnOk result (IsOpen new header 64 0 (area_bytes header) [])
