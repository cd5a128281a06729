-- Why a line is refused that is no operation, read or listing, in the words of a file system: by who is made and up, by links, letters, logs and disks.
use Rattle.std.specs.Prelude.{◌≡◌, ◌≢◌, ◌⊎◌, ◌<◌, ◌≤◌, ℕ, ◌+◌, ◌-◌, false, true, length, List, [], ◌∷◌, ◌++◌, Option, Some, None}
use Rattle.std.specs.Option.{unwrap_or}
use Rattle.coda_actors.specs.Plain.{Down, Tries, HasOther}
use Rattle.coda_fid.specs.declared.fid.Fid.{Fid}
use Rattle.coda_fid.specs.declared.op.Record.{Record}
use Rattle.coda_cml.specs.declared.frozen.Frozen.{Frozen}
use Rattle.coda_cml.specs.declared.segment.Segment.{Segment}
use Rattle.coda_cancel.specs.Cancel.{fold}
use Rattle.coda_cancel.specs.Numbers.{IsRising}
use Rattle.coda_cml.specs.Segments.{segments_of}
use Rattle.coda_journal.specs.declared.header.Header.{Header}
use Rattle.coda_letters.specs.Sent.{Sent, ChunkSent, AnswerSent, BreakSent, sent_at}
use Rattle.coda_plain.specs.Histories.{In}
use Rattle.coda_plain.specs.Moves.{Append}
use Rattle.coda_record.specs.declared.answer.Answer.{Answer}
use Rattle.coda_script.specs.declared.line.Line.{Line}
use Rattle.coda_script.specs.declared.line.Line.TheVariants as line
use Rattle.coda_script.specs.declared.line.Strength.TheVariants.{Down as LinkIsDown}
use Rattle.coda_script.specs.declared.line.Task.TheVariants as task
use Rattle.coda_script.specs.declared.reply.Reply.{Reply}
use Rattle.coda_script.specs.declared.reply.Reply.TheVariants.{Refused}
use Rattle.coda_cell.specs.Refused as refused
use Rattle.coda_cell.specs.Refusing.{refusal}
use Rattle.coda_cell.specs.State.{ClientVolume, ClientState, Event}
use Rattle.coda_cell.specs.Steps.{alone, Does}
use Rattle.coda_shelves.specs.Cells.{Row, Cell, Stand, asked, is_up, stand_of, state_of, failed, after_all}
use Rattle.coda_shelves.specs.Lines.{is_built, area_of, meets, Lacks, Stop, Happens, refused_down, refused_full, refused_fault, refused_foreign}
use Rattle.coda_shelves.specs.Shelves.{client_header, replica_header}
use Rattle.coda_runs.specs.Causes.{named_by}

abbrev pub IsRefused : Reply → Type 0
IsRefused (Refused named args) = Unit {0}
IsRefused reply = ⊥

-- any line but an operation, a read or a listing
abbrev pub IsOther : Line → Type 0
IsOther (line.Task t) = named_by t ≡ None
IsOther said = Unit {0}

-- ---- whom a line names, and whom it needs

-- the client, the volume and the server that a line names, or the letter that it delivers
pub record Names : Type 0 where
  pub client : Option ℕ
  pub volume : Option ℕ
  pub server : Option ℕ

abbrev pub no_names : Names
no_names = record { client = None; volume = None; server = None }

abbrev pub all_names : ℕ → ℕ → ℕ → Names
all_names client volume server = record { client = Some client; volume = Some volume; server = Some server }

abbrev pub names_of : Option Sent → Names
names_of None = no_names
names_of (Some (ChunkSent client server volume number span)) = all_names client volume server
names_of (Some (AnswerSent server client volume number answer)) = all_names client volume server
names_of (Some (BreakSent server client volume fids)) = all_names client volume server

abbrev pub names_in : Cell → Line → Names
names_in cell (line.Link client server strength) = record { client = Some client; volume = None; server = Some server }
names_in cell (line.Task (task.Drain client volume server window)) = all_names client volume server
names_in cell (line.ShowVolume server volume) = record { client = None; volume = Some volume; server = Some server }
names_in cell (line.ShowLog client volume) = record { client = Some client; volume = Some volume; server = None }
names_in cell (line.ShowState client volume) = record { client = Some client; volume = Some volume; server = None }
names_in cell (line.Send client volume server window) = all_names client volume server
names_in cell (line.Deliver message) = names_of (sent_at message cell.waiting)
names_in cell (line.CrashClient client choice) = record { client = Some client; volume = None; server = None }
names_in cell (line.RecoverClient client) = record { client = Some client; volume = None; server = None }
names_in cell (line.ArmClient client passes) = record { client = Some client; volume = None; server = None }
names_in cell (line.CrashReplica server volume choice) = record { client = None; volume = Some volume; server = Some server }
names_in cell (line.RecoverReplica server volume) = record { client = None; volume = Some volume; server = Some server }
names_in cell (line.ArmReplica server volume passes) = record { client = None; volume = Some volume; server = Some server }
names_in cell said = no_names

-- The server doesn't hold the volume; of no volume: it holds none.
abbrev pub HoldsNot : Cell → ℕ → Option ℕ → Type 0
HoldsNot cell server (Some volume) = (at : Stand) → stand_of cell volume ≡ Some at → alone at.servers ≢ server
HoldsNot cell server None = (row : Row) → In row cell.rows → alone row.servers ≢ server

-- whether the line needs that this client is up
abbrev pub NeedsClient : Cell → Line → ℕ → Type 0
NeedsClient cell (line.Link client server strength) c = client ≡ c
NeedsClient cell (line.Task (task.Drain client volume server window)) c = client ≡ c
NeedsClient cell (line.ShowLog client volume) c = client ≡ c
NeedsClient cell (line.ShowState client volume) c = client ≡ c
NeedsClient cell (line.Send client volume server window) c = client ≡ c
NeedsClient cell (line.Deliver message) c =
    ((server volume number : ℕ) × (answer : Answer) × (sent_at message cell.waiting ≡ Some (AnswerSent server c volume number answer)))
    ⊎ ((server volume : ℕ) × (fids : List Fid) × (sent_at message cell.waiting ≡ Some (BreakSent server c volume fids)))
NeedsClient cell (line.ArmClient client passes) c = client ≡ c
NeedsClient cell said c = ⊥

-- whether it needs that the replica of this volume on this server is up
abbrev pub NeedsReplica : Cell → Line → ℕ → ℕ → Type 0
NeedsReplica cell (line.Task (task.Drain client volume server window)) s v = (server ≡ s) × (volume ≡ v)
NeedsReplica cell (line.ShowVolume server volume) s v = (server ≡ s) × (volume ≡ v)
NeedsReplica cell (line.Deliver message) s v = (client number : ℕ) × (span : List Record) × (sent_at message cell.waiting ≡ Some (ChunkSent client s v number span))
NeedsReplica cell (line.ArmReplica server volume passes) s v = (server ≡ s) × (volume ≡ v)
NeedsReplica cell said s v = ⊥

-- The line goes over the link between this client and this server.
abbrev pub GoesOver : Cell → Line → ℕ → ℕ → Type 0
GoesOver cell (line.Task (task.Drain client volume server window)) c s = (client ≡ c) × (server ≡ s)
GoesOver cell (line.Send client volume server window) c s = (client ≡ c) × (server ≡ s)
GoesOver cell (line.Deliver message) c s =
    ((volume number : ℕ) × (span : List Record) × (sent_at message cell.waiting ≡ Some (ChunkSent c s volume number span)))
    ⊎ ((volume number : ℕ) × (answer : Answer) × (sent_at message cell.waiting ≡ Some (AnswerSent s c volume number answer)))
    ⊎ ((volume : ℕ) × (fids : List Fid) × (sent_at message cell.waiting ≡ Some (BreakSent s c volume fids)))
GoesOver cell said c s = ⊥

abbrev pub IsOfLetter : Line → ℕ → Type 0
IsOfLetter (line.Deliver message) m = message ≡ m
IsOfLetter (line.Lose message) m = message ≡ m
IsOfLetter said m = ⊥

-- ---- logs

-- The line sends what a client has of a volume to a server, with this window, which is of 600 seconds where none is given.
abbrev pub Sends : Line → ℕ → ℕ → ℕ → ℕ → Type 0
Sends (line.Task (task.Drain client volume server given)) c v s window = (client ≡ c) × (volume ≡ v) × (server ≡ s) × (unwrap_or given 600 ≡ window)
Sends (line.Send client volume server given) c v s window = (client ≡ c) × (volume ≡ v) × (server ≡ s) × (unwrap_or given 600 ≡ window)
Sends said c v s window = ⊥

-- what a client that was made has of a volume
abbrev pub Has : Cell → ℕ → ℕ → ClientVolume → Type 0
Has cell client volume v = (c : ClientState) × ((state_of cell).clients client ≡ Some c) × (c.volumes volume ≡ v)

-- no record is left in a segment
abbrev pub IsEmpty : Segment → Type 0
IsEmpty segment = segment.count ≡ 0

-- the first segment with a record
pub record FirstFilled (segments : List Segment) (segment : Segment) : Type 0 where
  pub before : List Segment
  pub behind : List Segment
  pub is : segments ≡ before ++ segment ∷ behind
  pub empty : (s : Segment) → In s before → IsEmpty s
  pub filled : segment.count ≢ 0

-- ---- disks that are mounted

-- the line mounts the disk of this client under this header
abbrev pub MountsFor : Cell → Line → ℕ → Header → Type 0
MountsFor cell (line.Client client blocks area) c header = (client ≡ c) × (client_header client blocks (area_of area) ≡ header)
MountsFor cell (line.RecoverClient client) c header = (client ≡ c) × (asked (cell.clients client).life ≡ Some header)
MountsFor cell said c header = ⊥

-- the line mounts the disk of this server in this row under this header
abbrev pub MountsIn : Cell → Line → ℕ → ℕ → Header → Type 0
MountsIn cell (line.Volume volume servers area) row s header = (row ≡ length cell.rows) × In s servers × (replica_header volume servers (area_of area) s ≡ header)
MountsIn cell (line.RecoverReplica server volume) row s header =
    (server ≡ s) × ((at : Stand) × (stand_of cell volume ≡ Some at) × (at.row ≡ row)) × (asked (cell.replicas row s).life ≡ Some header)
MountsIn cell said row s header = ⊥

-- The entry is the line's next one: of all that the line does where disks have room, what comes before the entry happened, and left this cell.
pub record IsNext (old mid : Cell) (said : Line) (next : Append) : Type 0 where
  pub own : Reply
  pub events : List Event
  pub does : Does (meets old said) said own events
  pub stop : Stop events
  pub is : stop.next ≡ next
  pub behind : mid ≡ after_all old stop.done

-- ---- why

-- What a refused line is refused for holds. Of an entry for which a journal has no room, or whose append failed, the cell behind the line is told: where it lacks the room, or
-- where the entry's actor fell.
pub data Because (old : Cell) (said : Line) (reply : Reply) (new : Cell) : Type 0 where
  -- it names a client that wasn't made, a volume that wasn't, or a server that doesn't hold it
  NoClient : (client : ℕ) → (names_in old said).client ≡ Some client → asked (old.clients client).life ≡ None → reply ≡ refusal (refused.NoSuchActor client) → Because old said reply new
  NoVolume : (volume : ℕ) → (names_in old said).volume ≡ Some volume → stand_of old volume ≡ None → reply ≡ refusal (refused.NoSuchActor volume) → Because old said reply new
  NoServer : (server : ℕ) → (names_in old said).server ≡ Some server → HoldsNot old server (names_in old said).volume → reply ≡ refusal (refused.NoSuchActor server) → Because old said reply new
  -- it would make what was made already, or more than there may be
  ClientIsThere : (client blocks : ℕ) (area : Option ℕ) (header : Header) → said ≡ line.Client client blocks area → asked (old.clients client).life ≡ Some header → reply ≡ refusal refused.AlreadyThere → Because old said reply new
  VolumeIsThere : (volume : ℕ) (servers : List ℕ) (area : Option ℕ) (at : Stand) → said ≡ line.Volume volume servers area → stand_of old volume ≡ Some at → reply ≡ refusal refused.AlreadyThere → Because old said reply new
  ClientHasNoRoom : (client blocks : ℕ) (area : Option ℕ) → said ≡ line.Client client blocks area → 512 < old.areas + area_of area → reply ≡ refusal refused.CellFull → Because old said reply new
  VolumeHasNoRoom : (volume : ℕ) (servers : List ℕ) (area : Option ℕ) → said ≡ line.Volume volume servers area → (64 ≤ length old.rows) ⊎ (512 < old.areas + area_of area) → reply ≡ refusal refused.CellFull → Because old said reply new
  -- the client, or the replica, that it needs was made and is down
  ClientIsDown : (client : ℕ) (header : Header) → NeedsClient old said client → asked (old.clients client).life ≡ Some header → is_up (old.clients client).life ≡ false → reply ≡ refused_down → Because old said reply new
  ReplicaIsDown : (server volume : ℕ) (at : Stand) → NeedsReplica old said server volume → stand_of old volume ≡ Some at → is_up (old.replicas at.row server).life ≡ false → reply ≡ refused_down → Because old said reply new
  -- the link is down over which it goes
  LinkCarriesNothing : (client server : ℕ) → GoesOver old said client server → old.links client server ≡ LinkIsDown → reply ≡ refusal refused.LinkDown → Because old said reply new
  -- no letter of this number waits
  NoLetter : (message : ℕ) → IsOfLetter said message → sent_at message old.waiting ≡ None → reply ≡ refusal (refused.NoMessage message) → Because old said reply new
  -- the client has a chunk on its way to another server
  IsFrozenFor : (client volume server window : ℕ) (v : ClientVolume) (chunk : Frozen) → Sends said client volume server window → Has old client volume v → v.frozen ≡ Some chunk → chunk.home ≢ server
      → reply ≡ refusal (refused.Frozen chunk.number chunk.home) → Because old said reply new
  -- cancellation leaves no record of what is pending: no segment of it has one, and where its operations are numbered in order, as in every cell that is kept, there is none
  NothingIsLeft : (client volume server window : ℕ) (v : ClientVolume) → Sends said client volume server window → Has old client volume v → v.frozen ≡ None
      → ((s : Segment) → In s (segments_of v.back) → IsEmpty s) → (IsRising v.back → fold v.back ≡ []) → reply ≡ refusal refused.Nothing → Because old said reply new
  -- the newest operation of the first segment that has a record is younger than the window
  IsYoung : (client volume server window : ℕ) (v : ClientVolume) (segment : Segment) → Sends said client volume server window → Has old client volume v → v.frozen ≡ None → FirstFilled (segments_of v.back) segment
      → old.clock - segment.newest < window → reply ≡ refusal (refused.Young (old.clock - segment.newest) window) → Because old said reply new
  -- the client froze as many chunks as it may, or the replica would decide a chunk with a number above the last one
  NoChunkIsLeft : (client volume server window : ℕ) (v : ClientVolume) → Sends said client volume server window → Has old client volume v → 4294967295 ≤ v.chunks → reply ≡ refusal refused.JournalFull → Because old said reply new
  ChunkIsTooHigh : (client volume server window : ℕ) (v : ClientVolume) (chunk : Frozen) → Sends said client volume server window → Has old client volume v → v.frozen ≡ Some chunk → 4294967295 < chunk.number
      → reply ≡ refusal refused.JournalFull → Because old said reply new
  LetterIsTooHigh : (message client server volume number : ℕ) (span : List Record) → said ≡ line.Deliver message → sent_at message old.waiting ≡ Some (ChunkSent client server volume number span) → 4294967295 < number
      → reply ≡ refusal refused.JournalFull → Because old said reply new
  -- an answer came to a client of which no chunk is frozen, or another one
  NoneIsFrozen : (message server client volume number : ℕ) (answer : Answer) (v : ClientVolume) → said ≡ line.Deliver message → sent_at message old.waiting ≡ Some (AnswerSent server client volume number answer) → Has old client volume v
      → v.frozen ≡ None → reply ≡ refusal (refused.NotFrozen number) → Because old said reply new
  AnotherIsFrozen : (message server client volume number : ℕ) (answer : Answer) (v : ClientVolume) (chunk : Frozen) → said ≡ line.Deliver message → sent_at message old.waiting ≡ Some (AnswerSent server client volume number answer)
      → Has old client volume v → v.frozen ≡ Some chunk → chunk.number ≢ number → reply ≡ refusal (refused.WrongNumber chunk.number number) → Because old said reply new
  -- a journal has no room for the next entry, or its append failed
  JournalIsFull : (next : Append) → IsNext old new said next → Lacks new next → reply ≡ refused_full → Because old said reply new
  AppendFailed : (mid : Cell) (next : Append) → IsNext old mid said next → new ≡ failed mid next → reply ≡ refused_fault → Because old said reply new
  -- the disk that it mounts was given another header, which differs first there
  ClientDiskIsOthers : (client at : ℕ) (header : Header) → MountsFor old said client header → HasOther header (old.clients client).disk.header at → reply ≡ refused_foreign at → Because old said reply new
  ReplicaDiskIsOthers : (row server at : ℕ) (header : Header) → MountsIn old said row server header → HasOther header (old.replicas row server).disk.header at → reply ≡ refused_foreign at → Because old said reply new
  -- a call of the disk failed that it mounts: the disk is as it was, or had no entries and was given the header; and its actor is down
  ClientDiskFailed : (client : ℕ) (header : Header) → MountsFor old said client header → Tries header (old.clients client).disk (new.clients client).disk → (new.clients client).life ≡ Down header → reply ≡ refused_fault
      → Because old said reply new
  ReplicaDiskFailed : (row server : ℕ) (header : Header) → MountsIn old said row server header → Tries header (old.replicas row server).disk (new.replicas row server).disk → (new.replicas row server).life ≡ Down header
      → reply ≡ refused_fault → Because old said reply new

-- In whatever cell, a line that is built and is no operation, read or listing is refused only for a cause that holds.
abbrev pub EveryRefusalHasItsCause : Type 0
EveryRefusalHasItsCause =
    (cell : Cell) (said : Line) (reply : Reply) (outside : List (List ℕ)) (new : Cell) → is_built said ≡ true → IsOther said → Happens cell said reply outside new → IsRefused reply → Because cell said reply new
