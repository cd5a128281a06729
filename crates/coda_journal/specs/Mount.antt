-- What a mounting answers.
use Rattle.std.specs.Prelude.{◌≡◌, ◌⊎◌, ℕ, List, [], Result, Ok, Err}
use Rattle.coda_disk.specs.Told.{Told, Only, LeavesOnly}
use Rattle.coda_journal.specs.Header.{area_bytes}
use Rattle.coda_journal.specs.Image.{IsUnmade, ReadsAs, IsForeign}
use Rattle.coda_journal.specs.declared.header.Header.{Header}
use Rattle.coda_journal.specs.Open.{IsOpen}
use Rattle.coda_journal.specs.declared.pieces.Found.{Found}
use Rattle.coda_journal.specs.declared.mounting.MountFault.{MountFault}
use Rattle.coda_journal.specs.declared.mounting.MountFault.TheVariants.{Foreign, DiskFault, Memory}

-- an image that a crash might have left before, or, of a disk that wasn't made, one that reads as the empty list
abbrev pub OldOrEmpty : Header → Told → List ℕ → Type 0
OldOrEmpty header old c = old.may_leave c ⊎ (IsUnmade old.seen × ReadsAs header [] c)

-- The disk read as this list, and is now at rest with it.
pub record Mounted (header : Header) (old new : Told) (start used : ℕ) (payloads : List (List ℕ)) : Type 0 where
  pub is_open : IsOpen new header start used (area_bytes header) payloads
  pub was : ReadsAs header payloads old.seen
  pub leaves : LeavesOnly old new (OldOrEmpty header old)

-- Foreign: the disk is as it was, and durable. Memory: the disk is as it was.
abbrev pub WhyNot : Header → Told → Told → MountFault → Type 0
WhyNot header old new (Foreign at) = IsForeign header old.seen at × (new.seen ≡ old.seen) × Only new.seen new.may_leave
WhyNot header old new DiskFault = Unit {0}
WhyNot header old new Memory = (new.seen ≡ old.seen) × ((c : List ℕ) → new.may_leave c → old.may_leave c)

pub record NotMounted (header : Header) (old new : Told) (why : MountFault) : Type 0 where
  pub honest : new.honest
  pub leaves : LeavesOnly old new (OldOrEmpty header old)
  -- nothing was written, or the disk wasn't made and each image reads as the empty list under this header
  pub now : ((c : List ℕ) → new.may_leave c → old.may_leave c) ⊎ (IsUnmade old.seen × ((c : List ℕ) → new.may_leave c → ReadsAs header [] c))
  pub why_not : WhyNot header old new why

abbrev pub MountAnswers : Header → Told → Told → Result Found MountFault → Type 0
MountAnswers header old new (Ok found) = Mounted header old new found.start found.used found.payloads.items
MountAnswers header old new (Err why) = NotMounted header old new why
