-- A journal at rest.
use Rattle.std.specs.Prelude.{◌≡◌, ◌⊎◌, ℕ, List, [], ◌∷◌, ◌++◌, length, Option, Some, None}
use Rattle.std.specs.Int.{w32}
use Rattle.coda_disk.specs.Told.{Told, Only}
use Rattle.coda_journal.specs.Entries.{blocks}
use Rattle.coda_journal.specs.Header.{IsHeader, area_bytes}
use Rattle.coda_journal.specs.Image.{Reads, ReadsAs, start_of}
use Rattle.coda_journal.specs.declared.header.Header.{Header}

-- All that a crash now may leave is one image, which has this header and reads as this list. The area begins at start, and used is the place of its closed gate.
pub record IsOpen (told : Told) (header : Header) (start used area : ℕ) (payloads : List (List ℕ)) : Type 0 where
  pub honest : told.honest
  pub whole : IsHeader header
  pub reads : Reads header told.seen payloads
  pub starts : start ≡ start_of header told.seen
  pub counts : used ≡ length (blocks w32 payloads)
  pub size : area ≡ area_bytes header
  pub durable : Only told.seen told.may_leave

-- the list, or where an append failed the list with that entry
abbrev pub MayBe : Header → List (List ℕ) → Option (List ℕ) → List ℕ → Type 0
MayBe header payloads None image = ReadsAs header payloads image
MayBe header payloads (Some entry) image = ReadsAs header payloads image ⊎ ReadsAs header (payloads ++ entry ∷ []) image

-- each image that a crash now may leave stands for the list, or for it and the entry whose append failed
pub record Stands (told : Told) (header : Header) (payloads : List (List ℕ)) (failed : Option (List ℕ)) : Type 0 where
  pub honest : told.honest
  pub whole : IsHeader header
  pub each : (c : List ℕ) → told.may_leave c → MayBe header payloads failed c

-- each image that a crash now may leave stands for some list
abbrev pub IsOurs : Header → Told → Type 0
IsOurs header told = (c : List ℕ) → told.may_leave c → (payloads : List (List ℕ)) × ReadsAs header payloads c
