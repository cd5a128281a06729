-- A client's history in a cell, and its journal.
use Rattle.std.specs.Prelude.{◌≡◌, ◌<◌, ◌⊎◌, ◌+◌, ℕ, true, List, [], ◌∷◌, ◌++◌, Some, Result, Ok, Err, map, length}
use Rattle.std.specs.Int.{w32}
use Rattle.coda_disk.specs.Told.{Told}
use Rattle.coda_journal.specs.Entries.{blocks, framed}
use Rattle.coda_journal.specs.Header.{area_bytes}
use Rattle.coda_journal.specs.declared.header.Header.{Header}
use Rattle.coda_plain.specs.Cell.{ClientEntry, Fetched, Did, Dropping, deeds_of}
use Rattle.coda_plain.specs.Deeds.{Operated, Froze, Settled, Gaveup, AreLawful}
use Rattle.coda_record.specs.declared.entry.ClientEntry.{ClientEntry as KeptEntry}
use Rattle.coda_record.specs.declared.entry.ClientEntry.TheVariants as kept
use Rattle.coda_venus.specs.History.{Payload, payload_of, payloads_of, IsHistory}
use Rattle.coda_venus.specs.Standing.{IsUp, StandsFor}
use Rattle.coda_venus.specs.State.{ClientVolume as VenusVolume, ClientState as VenusState}
use Rattle.coda_venus.specs.declared.refused.Refused.{Refused as VenusRefused}
use Rattle.coda_venus.specs.declared.refused.Refused.TheVariants as venus
use Rattle.coda_venus.specs.declared.venus.Venus.{Venus}
use Rattle.coda_cell.specs.State.{ClientVolume, ClientState, log_of}
use Rattle.coda_cell.specs.Refusing.{client_refused_as}
use Rattle.coda_cell.specs.Refused.{Refused}
use Rattle.coda_cell.specs.Refused as refused

-- ---- what stands in a journal

-- an entry of a history, as a journal keeps it behind what was dropped at once with it
abbrev pub entry_of : ClientEntry → KeptEntry
entry_of (Fetched fid parent node) = kept.Fetched fid parent node
entry_of (Did volume (Operated rec)) = kept.Op volume rec
entry_of (Did volume (Froze number home last)) = kept.Freeze volume number home last
entry_of (Did volume (Settled number verdict)) = kept.Settled volume number verdict
entry_of (Did volume Gaveup) = kept.Giveup volume
entry_of (Dropping gone entry) = entry_of entry

-- what was dropped at once with an entry, as a journal keeps it
abbrev pub gone_with : ClientEntry → Payload
gone_with (Fetched fid parent node) = []
gone_with (Did volume deed) = []
gone_with (Dropping gone entry) = map kept.Dropped gone ++ gone_with entry

-- each entry is written by itself, behind what was dropped with it
abbrev pub payload_by : ClientEntry → Payload
payload_by entry = gone_with entry ++ entry_of entry ∷ []

abbrev pub journal_by : List ClientEntry → List Payload
journal_by history = map payload_by history

-- a history that a client of a cell may have, with a journal under this header that it may have
pub record IsClientHistory (header : Header) (history : List ClientEntry) : Type 0 where
  pub journal : IsHistory header (journal_by history)
  pub deeds : (volume : ℕ) → AreLawful (deeds_of volume history)

-- ---- what both leave

-- The log is what cancellation leaves of the operations that are pending, and as many objects were created.
pub record IsOneVolume (v : ClientVolume) (w : VenusVolume) : Type 0 where
  pub log : w.log ≡ log_of v
  pub creations : w.creations ≡ v.creations

-- A client of a cell, and one on a disk: both hold the same below the same parents, and have the same of each volume.
pub record IsOneClient (c : ClientState) (d : VenusState) : Type 0 where
  pub number : d.number ≡ c.number
  pub blocks : d.blocks ≡ c.blocks
  pub held : d.held ≡ c.held
  pub volumes : (volume : ℕ) → IsOneVolume (c.volumes volume) (d.volumes volume)

-- ---- how a call of a client ends that is to add entries

-- entries that were to be added in order: those that were, and the one at which it stopped
pub record Cut {E : Type 0} (entries : List E) : Type 0 where
  pub done : List E
  pub next : E
  pub rest : List E
  pub is : entries ≡ done ++ next ∷ rest

-- the journal has no room for the entry behind those of the history
abbrev pub LacksRoom : Header → List ClientEntry → ClientEntry → Type 0
LacksRoom header history entry = area_bytes header < length (blocks w32 (payloads_of (journal_by history))) + length (framed w32 (payload_of (payload_by entry)))

-- A call was to add these entries, one after the other, and to say this; and so it ended: it answered what was to be said, and all of them are
-- there; or it was refused, by what was to be said, or for want of room for one of them; or a fault of the disk stopped it at one of them; or
-- there was no memory, and those in front are there.
abbrev pub Ends : {D A B : Type 0} → (D → Told) → Header → List ClientEntry → List ClientEntry → Result A Refused → (A → B → Type 0) → Venus D → Result B VenusRefused → Type 0
Ends {A = A} told header history entries said IsAs new (Ok b) = (a : A) × (said ≡ Ok a) × IsAs a b × IsUp told header new (journal_by (history ++ entries))
Ends told header history entries said IsAs new (Err venus.JournalFull) =
    ((said ≡ Err refused.JournalFull) × IsUp told header new (journal_by (history ++ entries)))
    ⊎ ((cut : Cut entries) × LacksRoom header (history ++ cut.done) cut.next × IsUp told header new (journal_by (history ++ cut.done)))
Ends told header history entries said IsAs new (Err venus.DiskFault) =
    (cut : Cut entries) × (new.down ≡ true) × StandsFor (told new.journal.disk) header (journal_by (history ++ cut.done)) (Some (payload_by cut.next))
Ends told header history entries said IsAs new (Err venus.Memory) = (done : List ClientEntry) × (rest : List ClientEntry) × (entries ≡ done ++ rest) × IsUp told header new (journal_by (history ++ done))
Ends told header history entries said IsAs new (Err venus.Down) = ⊥
Ends told header history entries said IsAs new (Err why) = (said ≡ Err (client_refused_as why)) × IsUp told header new (journal_by (history ++ entries))
