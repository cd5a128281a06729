-- What lines find on the disks on which they make actors, or recover them, whoever made them before; what they leave of all others; and that
-- what one run made can be made again.
use Rattle.std.specs.Prelude.{◌≡◌, ◌≢◌, ◌⊎◌, ℕ, length, List, [], ◌∷◌, Option, Some, true}
use Rattle.coda_actors.specs.Plain.{PlainDisk, PlainActor, Unmade, Up}
use Rattle.coda_journal.specs.declared.header.Header.{Header}
use Rattle.coda_plain.specs.Histories.{In}
use Rattle.coda_script.specs.declared.line.Line.{Line}
use Rattle.coda_script.specs.declared.line.Line.TheVariants as line
use Rattle.coda_script.specs.declared.reply.Reply.{Reply}
use Rattle.coda_script.specs.declared.reply.Reply.TheVariants.{Opened}
use Rattle.coda_engine.specs.Run.{Runs}
use Rattle.coda_shelves.specs.Shelves.{blank_shelves, client_header, replica_header, Shelves}
use Rattle.coda_shelves.specs.Cells.{Cell, begun_on, asked, Stand, stand_of}
use Rattle.coda_shelves.specs.Lines.{area_of, refused_foreign, Happens, is_built}
use Rattle.coda_shelves.specs.FromBlank.{ArePlaced}
use Rattle.coda_runs.specs.Headline.{IsFoundAgain}
use Rattle.coda_runs.specs.Shelved.{LineGives}
use Rattle.std.specs.List.{AllByRecursion}
use Rattle.coda_script.specs.Ranges.{InRange}

-- ---- who never came

-- the line mounts the disk of this client, to make it
abbrev pub MountsClient : Line → ℕ → Type 0
MountsClient (line.Client number blocks area) client = client ≡ number
MountsClient said client = ⊥

-- the line mounts the disk at this place of replicas, to make a volume
abbrev pub MountsPlace : Cell → Line → ℕ → ℕ → Type 0
MountsPlace cell (line.Volume volume servers area) row server = (row ≡ length cell.rows) × In server servers
MountsPlace cell said row server = ⊥

-- Behind each line, whoever wasn't made before it is as it was, on a disk as it was, but whose disk the line mounts to make it: of replicas in every cell whose volumes have theirs, as
-- runs leave it (`WhatRanIsKept`).
pub record WhoNeverCameIsAsItWas : Type 0 where
  pub clients : (cell new : Cell) (said : Line) (reply : Reply) (outside : List (List ℕ)) (client : ℕ) → Happens cell said reply outside new → (cell.clients client).life ≡ Unmade
      → (new.clients client ≡ cell.clients client) ⊎ MountsClient said client
  pub replicas : (cell new : Cell) (said : Line) (reply : Reply) (outside : List (List ℕ)) (row server : ℕ) → ArePlaced cell → Happens cell said reply outside new → (cell.replicas row server).life ≡ Unmade
      → (new.replicas row server ≡ cell.replicas row server) ⊎ MountsPlace cell said row server

-- ---- whose disks they are

-- Nobody's own disk is another's: a line that makes an actor on a disk with the header that it asks for isn't refused so, of a volume if all its disks have theirs.
pub record OwnDisksAreNotForeign : Type 0 where
  pub clients : (cell new : Cell) (client blocks at : ℕ) (area : Option ℕ) (outside : List (List ℕ)) → (cell.clients client).disk.header ≡ Some (client_header client blocks (area_of area))
      → Happens cell (line.Client client blocks area) (refused_foreign at) outside new → ⊥
  pub volumes : (cell new : Cell) (volume at : ℕ) (servers : List ℕ) (area : Option ℕ) (outside : List (List ℕ))
      → ((server : ℕ) → In server servers → (cell.replicas (length cell.rows) server).disk.header ≡ Some (replica_header volume servers (area_of area) server))
      → Happens cell (line.Volume volume servers area) (refused_foreign at) outside new → ⊥

-- the disk has another header than this, and holds entries
abbrev pub IsHeldByAnother : {E : Type 0} → Header → PlainDisk E → Type 0
IsHeldByAnother header disk = (other : Header) × (disk.header ≡ Some other) × (other ≢ header) × (disk.history ≢ [])

-- Whoever has entries on a disk keeps it: a line that asks for it under another header leaves all that it holds as it was, whatever call of it failed: a line that makes a
-- client or a volume, with a wrong cache, area, server or order, and a recovery of such an actor.
pub record WhatOthersHoldIsKept : Type 0 where
  pub clients : (cell new : Cell) (client blocks : ℕ) (area : Option ℕ) (reply : Reply) (outside : List (List ℕ)) → IsHeldByAnother (client_header client blocks (area_of area)) (cell.clients client).disk
      → Happens cell (line.Client client blocks area) reply outside new → (new.clients client).disk ≡ (cell.clients client).disk
  pub volumes : (cell new : Cell) (volume server : ℕ) (servers : List ℕ) (area : Option ℕ) (reply : Reply) (outside : List (List ℕ))
      → IsHeldByAnother (replica_header volume servers (area_of area) server) (cell.replicas (length cell.rows) server).disk
      → Happens cell (line.Volume volume servers area) reply outside new → (new.replicas (length cell.rows) server).disk ≡ (cell.replicas (length cell.rows) server).disk
  pub clients_again : (cell new : Cell) (client : ℕ) (header : Header) (reply : Reply) (outside : List (List ℕ)) → asked (cell.clients client).life ≡ Some header → IsHeldByAnother header (cell.clients client).disk
      → Happens cell (line.RecoverClient client) reply outside new → (new.clients client).disk ≡ (cell.clients client).disk
  pub replicas_again : (cell new : Cell) (server volume : ℕ) (at : Stand) (header : Header) (reply : Reply) (outside : List (List ℕ)) → stand_of cell volume ≡ Some at → asked (cell.replicas at.row server).life ≡ Some header
      → IsHeldByAnother header (cell.replicas at.row server).disk → Happens cell (line.RecoverReplica server volume) reply outside new → (new.replicas at.row server).disk ≡ (cell.replicas at.row server).disk

-- ---- what stands there

-- The actor is up under this header, with the entries that stood on its disk, or those and the one whose append failed; and the counts are theirs.
abbrev pub IsCounted : {E : Type 0} → Header → List ℕ → PlainDisk E → PlainActor E → Type 0
IsCounted header counts old new = (counts ≡ length new.disk.history ∷ []) × IsFoundAgain old new.disk × (new.life ≡ Up header)

-- Where a line makes an actor, its reply counts the entries that were found on the actor's disk; a volume is on one server so far.
pub record WhatIsMadeAgainIsCounted : Type 0 where
  pub clients : (cell new : Cell) (client blocks : ℕ) (area : Option ℕ) (counts : List ℕ) (outside : List (List ℕ)) → Happens cell (line.Client client blocks area) (Opened counts) outside new
      → IsCounted (client_header client blocks (area_of area)) counts (cell.clients client).disk (new.clients client)
  pub volumes : (cell new : Cell) (volume server : ℕ) (area : Option ℕ) (counts : List ℕ) (outside : List (List ℕ)) → Happens cell (line.Volume volume (server ∷ []) area) (Opened counts) outside new
      → IsCounted (replica_header volume (server ∷ []) (area_of area) server) counts (cell.replicas (length cell.rows) server).disk (new.replicas (length cell.rows) server)

-- the actor asks for this header, and its disk has another
abbrev pub StandsOnOthers : {E : Type 0} → PlainActor E → Type 0
StandsOnOthers actor = (header : Header) × (asked actor.life ≡ Some header) × ((other : Header) × (actor.disk.header ≡ Some other) × (other ≢ header))

-- Only who stands on the disk of another is refused as foreign by its recovery; and nobody is whatever lines ran over blank disks: each disk is its own.
pub record RecoveriesFindTheirOwn : Type 0 where
  pub first : (cell new : Cell) (ls : List (List ℕ)) (report : List ℕ) (outside answered : List (List ℕ)) (client server volume at : ℕ) → Runs LineGives (begun_on blank_shelves) ls report outside cell
      → (Happens cell (line.RecoverClient client) (refused_foreign at) answered new → ⊥) × (Happens cell (line.RecoverReplica server volume) (refused_foreign at) answered new → ⊥)
  pub clients : (cell new : Cell) (client at : ℕ) (outside : List (List ℕ)) → Happens cell (line.RecoverClient client) (refused_foreign at) outside new → StandsOnOthers (cell.clients client)
  pub replicas : (cell new : Cell) (server volume at : ℕ) (outside : List (List ℕ)) → Happens cell (line.RecoverReplica server volume) (refused_foreign at) outside new
      → (place : Stand) × (stand_of cell volume ≡ Some place) × StandsOnOthers (cell.replicas place.row server)

-- ---- what one run made, made again over the disks that it left

-- lines one after the other, with their replies
abbrev pub Happen : Cell → List Line → List Reply → Cell → Type 0
Happen old [] replies new = (replies ≡ []) × (new ≡ old)
Happen old (said ∷ lines) [] new = ⊥
Happen old (said ∷ lines) (reply ∷ replies) new = (mid : Cell) × (outside : List (List ℕ)) × Happens old said reply outside mid × Happen mid lines replies new

-- nobody was refused for the disk of another
abbrev pub NoneIsForeign : List Reply → Type 0
NoneIsForeign replies = (at : ℕ) → In (refused_foreign at) replies → ⊥

-- The same actors are made in both cells, under the same headers, and in the same rows.
pub record AreMadeAlike (old new : Cell) : Type 0 where
  pub rows : new.rows ≡ old.rows
  pub areas : new.areas ≡ old.areas
  pub clients : (client : ℕ) → asked (new.clients client).life ≡ asked (old.clients client).life
  pub replicas : (row server : ℕ) → asked (new.replicas row server).life ≡ asked (old.replicas row server).life

-- There are lines of scripts that make again all that was made in the cell, over whatever disks and whatever calls of them fail, unless a disk is another's; and they may happen
-- so over any.
pub record CanBeResumed (cell : Cell) : Type 0 where
  pub lines : List Line
  pub spelled : AllByRecursion (λ said. InRange said × (is_built said ≡ true)) lines
  pub again : (shelves : Shelves) (replies : List Reply) (new : Cell) → Happen (begun_on shelves) lines replies new → NoneIsForeign replies → AreMadeAlike cell new
  pub may : (shelves : Shelves) → (replies : List Reply) × (new : Cell) × Happen (begun_on shelves) lines replies new × NoneIsForeign replies

-- Whatever lines ran, over whatever disks, what they made can be made again.
abbrev pub WhatRanCanBeResumed : Type 0
WhatRanCanBeResumed = (shelves : Shelves) (cell : Cell) (ls : List (List ℕ)) (report : List ℕ) (outside : List (List ℕ)) → Runs LineGives (begun_on shelves) ls report outside cell → CanBeResumed cell
