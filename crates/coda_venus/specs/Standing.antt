-- Which history a client has, and which its disk stands for.
use Rattle.std.specs.Prelude.{◌≡◌, ℕ, false, List, Option, IfSome, option_map}
use Rattle.coda_disk.specs.Told.{Told}
use Rattle.coda_journal.specs.Image.{ReadsAs}
use Rattle.coda_journal.specs.Journal.{IsJournal}
use Rattle.coda_journal.specs.Open.{Stands}
use Rattle.coda_journal.specs.declared.header.Header.{Header}
use Rattle.coda_venus.specs.History.{Payload, payload_of, payloads_of, state_of, MayFollow, IsHistory}
use Rattle.coda_venus.specs.Code.{IsClient}
use Rattle.coda_venus.specs.declared.venus.Venus.{Venus}

-- The client is up: its journal is at rest with this history, so each image that a crash now may leave reads as it, and its state is what
-- the history leaves.
pub record IsUp {D : Type 0} (told : D → Told) (header : Header) (venus : Venus D) (history : List Payload) : Type 0 where
  pub up : venus.down ≡ false
  pub journal : IsJournal told header venus.journal (payloads_of history)
  pub lawful : IsHistory header history
  pub state : IsClient (state_of header history) venus.client

-- The disk stands for this history: each image that a crash now may leave reads as it, or as it and the payload whose append failed.
pub record StandsFor (told : Told) (header : Header) (history : List Payload) (failed : Option Payload) : Type 0 where
  pub images : Stands told header (payloads_of history) (option_map payload_of failed)
  pub lawful : IsHistory header history
  pub next : IfSome failed (MayFollow header history)

-- the image reads as this history
abbrev pub ReadsAsHistory : Header → List ℕ → List Payload → Type 0
ReadsAsHistory header image history = IsHistory header history × ReadsAs header (payloads_of history) image

-- each image that a crash now may leave reads as some history
abbrev pub IsClientDisk : Header → Told → Type 0
IsClientDisk header told = (image : List ℕ) → told.may_leave image → (history : List Payload) × ReadsAsHistory header image history
