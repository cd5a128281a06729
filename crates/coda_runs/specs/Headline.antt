-- What all runs of scripts have in common, in the words of a file system that replays logs: whatever stood on the disks where they began, whatever crashes, and
-- whatever disks fail.
use Rattle.std.specs.Prelude.{◌≡◌, ◌⊎◌, ℕ, Some, Ok, List, [], ◌∷◌, ◌++◌, length}
use Rattle.coda_tree.specs.Volume.{Nodes}
use Rattle.coda_actors.specs.Plain.{PlainDisk, PlainActor}
use Rattle.coda_journal.specs.Image.{ReadsAs}
use Rattle.coda_journal.specs.declared.header.Header.{Header}
use Rattle.coda_certify.specs.declared.reason.Reason.{Reason}
use Rattle.coda_certify.specs.declared.verdict.Verdict.TheVariants.{Applied, Conflict}
use Rattle.coda_certify.specs.Replay.{replay}
use Rattle.coda_engine.specs.Run.{Runs}
use Rattle.coda_plain.specs.Histories.{In}
use Rattle.coda_plain.specs.Deeds.{InChunk, Settlement, settlements_of, ended_of}
use Rattle.coda_plain.specs.Decisions.{Decision, verdict_on, nodes_by, sent_of}
use Rattle.coda_plain.specs.Cell.{Joins, deeds_of}
use Rattle.coda_plain.specs.Promises.{IsRefused, IsUnderWay}
use Rattle.coda_script.specs.declared.line.Line.TheVariants as line
use Rattle.coda_script.specs.declared.reply.Reply.TheVariants.{Recovered}
use Rattle.coda_cell.specs.State.{ClientState}
use Rattle.coda_shelves.specs.Shelves.{Shelves, blank_shelves, Found, found_on}
use Rattle.coda_shelves.specs.Cells.{Cell, begun_on, shelves_of, asked, Stand, stand_of, state_of}
use Rattle.coda_shelves.specs.Kept.{deeds_in, Decides, IsDecided, AreKept}
use Rattle.coda_shelves.specs.Laws.{Stay}
use Rattle.coda_shelves.specs.Lines.{Payloads, client_payloads, replica_payloads, Happens}
use Rattle.coda_shelves.specs.FromBlank.{ArePlaced}
use Rattle.coda_shelves.specs.Promises.{AreDecidedOnce, AreOperationsKept}
use Rattle.coda_shelves.specs.Running.{IsKept}
use Rattle.coda_runs.specs.Shelved.{LineGives, IsOfPending, HasRun, RunsFromBlankGoOn}
use Rattle.coda_fid.specs.Op.{carried}
use Rattle.coda_fid.specs.declared.op.Over.{Over}
use Rattle.coda_fid.specs.declared.op.Record.{Record}
use Rattle.coda_versions.specs.Versions.{HasVersion, IsGivenBy}

-- In every cell that is kept: in each that a run leaves over disks that are kept (`WhatRanIsKept`), as blank ones are, and those that such runs left.
abbrev pub InEachKept : (Cell → Type 0) → Type 0
InEachKept Holds = (cell : Cell) → IsKept cell → Holds cell

-- of what would be found on the disks of a cell, whichever of the entries join whose appends failed
abbrev pub InFound : Cell → (Found → Type 0) → Type 0
InFound cell Holds = (joins : Joins) → Holds (found_on (shelves_of cell) joins)

abbrev pub InEachFound : (Found → Type 0) → Type 0
InEachFound Holds = InEachKept (λ cell. InFound cell Holds)

-- Whatever lines ran over disks that are kept, the cell is kept, and each volume that they made has its replica in its row.
abbrev pub WhatRanIsKept : Type 0
WhatRanIsKept =
    (shelves : Shelves) (cell : Cell) (ls : List (List ℕ)) (report : List ℕ) (outside : List (List ℕ)) → AreKept shelves → Runs LineGives (begun_on shelves) ls report outside cell → IsKept cell × ArePlaced cell

-- Whatever lines ran over blank disks, what they left has run; and all that `coda_plain` promises of a run from nothing is promised of it: of clients, and of the servers
-- of volumes.
pub record ScriptsRun : Type 0 where
  pub has_run : (cell : Cell) (ls : List (List ℕ)) (report : List ℕ) (outside : List (List ℕ)) → Runs LineGives (begun_on blank_shelves) ls report outside cell → HasRun blank_shelves cell
  pub promised : RunsFromBlankGoOn

-- Each chunk of a client on a volume is decided at most once on the disks of a row.
abbrev pub ChunksAreDecidedOnce : Type 0
ChunksAreDecidedOnce = InEachFound AreDecidedOnce

-- Where the operations of a chunk certify in turn, as they were before cancellation, the chunk is applied, and leaves the volume that
-- replaying them leaves.
abbrev pub CertifiedChunksAreApplied : Type 0
CertifiedChunksAreApplied =
    InEachFound (λ f. (row server volume : ℕ) (d : Decision) (nodes : Nodes) → Decides f row server volume d → replay d.before d.client d.span ≡ Ok nodes → (verdict_on d ≡ Applied) × (nodes_by d ≡ nodes))

-- A conflict names the first of the records sent that certification refuses; the operations of the chunk don't certify either, as they
-- were before cancellation; and the volume is as it was.
abbrev pub ConflictsNameASentRecord : Type 0
ConflictsNameASentRecord =
    InEachFound (λ f. (row server volume : ℕ) (d : Decision) (refused : ℕ) (why : Reason) → Decides f row server volume d → verdict_on d ≡ Conflict refused why → IsRefused d refused why)

-- No operation that a client accepted is lost, and none is done twice by the disks of one row: in order, each is in one chunk that was applied, or was given up, or is pending.
abbrev pub OperationsAreKept : Type 0
OperationsAreKept = InEachFound (λ f. (client volume : ℕ) → AreOperationsKept f client volume)

-- this row alone has disks of the volume
abbrev pub StandsInOneRow : Found → ℕ → ℕ → Type 0
StandsInOneRow f volume home = (row server : ℕ) → f.volumes row server ≡ volume → row ≡ home

-- Where one row alone has disks of a volume, nothing is done twice there, without exception: what was applied ended in its chunk, or is under way; and two decisions of a
-- chunk are on one disk.
pub record VolumesInOneRowAreDoneOnce : Type 0 where
  pub applied : InEachFound (λ f. (client volume home row server : ℕ) (d : Decision) → StandsInOneRow f volume home → Decides f row server volume d → d.client ≡ client → verdict_on d ≡ Applied
      → In (InChunk d.number d.span) (ended_of (deeds_in f client volume)) ⊎ IsUnderWay (deeds_in f client volume) d.number d.span)
  pub once : InEachFound (λ f. (volume home row server other at : ℕ) (first second : Decision) → StandsInOneRow f volume home → Decides f row server volume first → Decides f other at volume second
      → first.client ≡ second.client → first.number ≡ second.number → (row ≡ other) × (server ≡ at))

-- A client settles a chunk only by a verdict that is decided on it, on some disk of the volume, whatever letters were lost or came twice, and over however many runs.
abbrev pub SettlementsAreDecided : Type 0
SettlementsAreDecided = InEachFound (λ f. (client volume : ℕ) (s : Settlement) → In s (settlements_of (deeds_in f client volume)) → IsDecided f volume client s.number s.verdict)

-- The log of a client that was made is what cancellation leaves of its pending operations: of those of the chunk that is on its way, and of the others.
abbrev pub LogsArePending : Type 0
LogsArePending = InEachKept (λ cell. (client volume : ℕ) (c : ClientState) → (state_of cell).clients client ≡ Some c → IsOfPending (deeds_of volume (cell.clients client).disk.history) c volume)

-- Whatever lines run in whatever cell, crashes and failing disks among them, no entry that was acknowledged is lost, also of disks of which no line makes an
-- actor; and who has entries keeps the header.
abbrev pub AcknowledgedEntriesStay : Type 0
AcknowledgedEntriesStay =
    (cell later : Cell) (ls : List (List ℕ)) (report : List ℕ) (outside : List (List ℕ)) → Runs LineGives cell ls report outside later → Stay (shelves_of cell) (shelves_of later)

-- a disk has the entries that it had, or those and the one whose append failed
abbrev pub IsFoundAgain : {E : Type 0} → PlainDisk E → PlainDisk E → Type 0
IsFoundAgain {E} old new = (new.history ≡ old.history) ⊎ ((entry : E) × (old.failed ≡ Some entry) × (new.history ≡ old.history ++ entry ∷ []))

-- where the actor's last crash left an image, it reads as what the disk has now, under the header that the actor asks for
abbrev pub IsReadFromImage : {E : Type 0} → (PlainDisk E → Payloads) → PlainActor E → PlainDisk E → Type 0
IsReadFromImage payloads old disk = (header : Header) × (asked old.life ≡ Some header) × ((image : List ℕ) → old.left ≡ Some image → ReadsAs header (payloads disk).all image)

-- In whatever cell, a client that is recovered has the history from before, or that one with the one entry whose append failed, and the reply counts
-- its entries. Where it crashed since its last recovery, the image that the bay answered then reads as these.
abbrev pub ClientsComeBack : Type 0
ClientsComeBack =
    (cell : Cell) (client count : ℕ) (outside : List (List ℕ)) (new : Cell) → Happens cell (line.RecoverClient client) (Recovered count) outside new
    → IsFoundAgain (cell.clients client).disk (new.clients client).disk × (count ≡ length (new.clients client).disk.history) × IsReadFromImage client_payloads (cell.clients client) (new.clients client).disk

-- A server's replica of a volume likewise, where the volume stands.
abbrev pub ReplicasComeBack : Type 0
ReplicasComeBack =
    (cell : Cell) (server volume count : ℕ) (outside : List (List ℕ)) (new : Cell) → Happens cell (line.RecoverReplica server volume) (Recovered count) outside new
    → (at : Stand) × (stand_of cell volume ≡ Some at) × IsFoundAgain (cell.replicas at.row server).disk (new.replicas at.row server).disk × (count ≡ length (new.replicas at.row server).disk.history)
    × IsReadFromImage replica_payloads (cell.replicas at.row server) (new.replicas at.row server).disk

-- In every cell that is kept, where a server applied a chunk, each object that one of the records sent stores, sets, removes or replaces had at that server the version
-- that the client saw, or one that a record before it in the chunk gave it: so nothing was lost that another client did there meanwhile.
abbrev pub ChunksOverwriteNobody : Type 0
ChunksOverwriteNobody =
    (cell : Cell) → IsKept cell → (joins : Joins) (row server volume : ℕ) (d : Decision) (front : List Record) (rec : Record) (back : List Record) (over : Over) → Decides (found_on (shelves_of cell) joins) row server volume d
    → verdict_on d ≡ Applied → sent_of d.span ≡ front ++ rec ∷ back → carried rec.op ≡ Some over → HasVersion d.before over.fid over.pre ⊎ IsGivenBy d.client front over.fid over.pre
