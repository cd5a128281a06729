-- What holds of the logs of a client, whatever it did.
use Rattle.std.specs.Prelude.{◌≡◌, ◌≤◌, ℕ, [], ◌++◌, Option, Some, None}
use Rattle.std.specs.BTreeMap as tree
use Rattle.std.specs.BTreeMap.{BTreeMap}
use Rattle.std.specs.Ordering.{nat_cmp}
use Rattle.coda_cancel.specs.Numbers.{AreUpTo, IsRising}
use Rattle.coda_cml.specs.Partition.{BeginAbove, ArePartsOf}
use Rattle.coda_cml.specs.State.{LogState}
use Rattle.coda_cml.specs.declared.frozen.Frozen.{Frozen}
use Rattle.coda_spelling.specs.Spelled.{AreAllSpelled}
use Rattle.coda_venus.specs.Code.{volume_in}
use Rattle.coda_venus.specs.declared.volume_log.VolumeLog.{VolumeLog}

-- a chunk has a number from 1 on
abbrev pub IsNumbered : Option Frozen → Type 0
IsNumbered None = Unit {0}
IsNumbered (Some chunk) = (1 ≤ chunk.number) × (chunk.number ≤ 4294967295)

-- Numbers rise from 1 on, and are 2^32 - 1 at most; the segments of each part have its records; and there is no chunk where none is frozen.
pub record IsLogKept (log : LogState) : Type 0 where
  pub rising : IsRising (log.chunk ++ log.records)
  pub reached : AreUpTo log.last (log.chunk ++ log.records)
  pub parts : ArePartsOf log.last log.chunk_segments log.chunk log.segments log.records
  pub above : BeginAbove 0 (log.chunk_segments ++ log.segments)
  pub thaws : log.frozen ≡ None → (log.chunk ≡ []) × (log.chunk_segments ≡ [])
  pub few : log.last ≤ 4294967295
  pub numbered : IsNumbered log.frozen

-- all that the log has can be spelled, so whatever is frozen of it can be sent
pub record IsSendable (log : LogState) : Type 0 where
  pub kept : IsLogKept log
  pub chunk : AreAllSpelled log.chunk
  pub records : AreAllSpelled log.records

-- the same of each log
abbrev pub AreSendable : BTreeMap ℕ VolumeLog → Type 0
AreSendable logs = (volume : ℕ) → IsSendable (volume_in (tree.get nat_cmp logs volume)).log
