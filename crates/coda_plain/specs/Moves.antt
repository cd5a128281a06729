-- What may happen in a plain cell, one entry or one letter at a time.
use Rattle.std.specs.Prelude.{◌≡◌, ℕ, ◌+◌, ◌<◌, Bool, true, false, ◌==◌, ◌&&◌, if◌then◌else◌, Some, None, ◌⊎◌, List, [], ◌∷◌, ◌++◌}
use Rattle.std.specs.FinMap as map
use Rattle.coda_fid.specs.declared.fid.Fid.{Fid}
use Rattle.coda_fid.specs.declared.op.Op.{Op}
use Rattle.coda_tree.specs.Volume.{has}
use Rattle.coda_certify.specs.declared.verdict.Verdict.{Verdict}
use Rattle.coda_cancel.specs.Dropping.{mentioning, creates}
use Rattle.coda_plain.specs.Deeds.{Deed, Operated, Froze, Settled, Gaveup, Cut, full_of, created_in, IsMade, course_of, span_of, MayDo}
use Rattle.coda_plain.specs.Objects.{nodes_in}
use Rattle.coda_plain.specs.Decisions.{ReplicaEntry, Decided, Resolved, nodes_of, last_of, MayDecide}
use Rattle.coda_plain.specs.Cell.{ClientEntry, Fetched, Did, Dropping, deeds_of, Ruled, Behind, Old, Letter, ChunkSent, AnswerSent, BreakSent, Actor, joined_to, PlainCell}

-- one entry more of a client, or of a replica
pub data Append : Type 0 where
  AtClient : (client : ℕ) (entry : ClientEntry) → Append
  AtReplica : (server volume : ℕ) (entry : ReplicaEntry) → Append

-- an actor of the cell
pub data Who : Type 0 where
  TheClient : (client : ℕ) → Who
  TheReplica : (server volume : ℕ) → Who

-- what happens
pub data Move : Type 0 where
  -- an entry is on the disk
  Does : (append : Append) → Move
  -- the append of an entry failed: its actor is down
  Fails : (append : Append) → Move
  -- a letter is posted
  Posts : (letter : Letter) → Move
  -- a letter is lost
  Loses : (message : ℕ) → Move
  -- an actor goes down
  Crashes : (who : Who) → Move
  -- an actor comes up, and the failed entry joins its history or not
  Recovers : (who : Who) (joins : Bool) → Move

-- ---- what it leaves

-- one actor of the cell as another
abbrev pub with_client : PlainCell → ℕ → Actor ClientEntry → PlainCell
with_client cell client actor = record cell { clients = λ c. if c == client then actor else cell.clients c }

abbrev pub with_replica : PlainCell → ℕ → ℕ → Actor ReplicaEntry → PlainCell
with_replica cell server volume actor = record cell { replicas = λ s v. if (s == server) && (v == volume) then actor else cell.replicas s v }

abbrev pub grown : {E : Type 0} → E → Actor E → Actor E
grown entry actor = record actor { history = actor.history ++ entry ∷ [] }

abbrev pub fallen : {E : Type 0} → E → Actor E → Actor E
fallen entry actor = record actor { failed = Some entry; up = false }

abbrev pub crashed : {E : Type 0} → Actor E → Actor E
crashed actor = record actor { up = false }

abbrev pub recovered : {E : Type 0} → Bool → Actor E → Actor E
recovered joins actor = record { history = joined_to actor.history joins actor.failed; failed = None; up = true }

abbrev pub after : PlainCell → Move → PlainCell
after cell (Does (AtClient client entry)) = with_client cell client (grown entry (cell.clients client))
after cell (Does (AtReplica server volume entry)) = with_replica cell server volume (grown entry (cell.replicas server volume))
after cell (Fails (AtClient client entry)) = with_client cell client (fallen entry (cell.clients client))
after cell (Fails (AtReplica server volume entry)) = with_replica cell server volume (fallen entry (cell.replicas server volume))
after cell (Posts letter) = record cell { pool = λ m. if m == cell.posted + 1 then Some letter else cell.pool m; posted = cell.posted + 1 }
after cell (Loses message) = record cell { pool = λ m. if m == message then None else cell.pool m }
after cell (Crashes (TheClient client)) = with_client cell client (crashed (cell.clients client))
after cell (Crashes (TheReplica server volume)) = with_replica cell server volume (crashed (cell.replicas server volume))
after cell (Recovers (TheClient client) joins) = with_client cell client (recovered joins (cell.clients client))
after cell (Recovers (TheReplica server volume) joins) = with_replica cell server volume (recovered joins (cell.replicas server volume))

-- ---- when it may happen: by the actor's own history, and by what it is told

-- what a client that is up did on a volume
abbrev pub done_on : PlainCell → ℕ → ℕ → List Deed
done_on cell client volume = deeds_of volume (cell.clients client).history

-- the client is up, and its chunk of this number is frozen for this server
pub record IsFrozenFor (cell : PlainCell) (client server volume number : ℕ) : Type 0 where
  pub up : (cell.clients client).up ≡ true
  pub cut : Cut
  pub frozen : (course_of (done_on cell client volume)).cut ≡ Some cut
  pub home : cut.home ≡ server
  pub last : number ≡ (course_of (done_on cell client volume)).chunks

-- the replica is up, and keeps this verdict on this chunk
pub record IsKeptBy (cell : PlainCell) (client server volume number : ℕ) (verdict : Verdict) : Type 0 where
  pub up : (cell.replicas server volume).up ≡ true
  pub some : 0 < number
  pub last : last_of volume (cell.replicas server volume).history client ≡ record { number = number; verdict = verdict }

-- a chunk comes to a server by a letter, or from the client at once
abbrev pub IsSent : PlainCell → ℕ → ℕ → ℕ → ℕ → Type 0
IsSent cell client server volume number = ((message : ℕ) × (cell.pool message ≡ Some (ChunkSent client server volume number))) ⊎ IsFrozenFor cell client server volume number

-- a verdict comes to a client by a letter, or from the server at once
abbrev pub IsToldOf : PlainCell → ℕ → ℕ → ℕ → Verdict → Type 0
IsToldOf cell client volume number verdict =
    (server : ℕ) × (((message : ℕ) × (cell.pool message ≡ Some (AnswerSent server client volume number (Ruled verdict)))) ⊎ IsKeptBy cell client server volume number verdict)

-- the next object that a client creates on a volume
pub record IsNext (volume : ℕ) (deeds : List Deed) (client : ℕ) (op : Op) (fid : Fid) : Type 0 where
  pub creates_it : creates fid op ≡ true
  pub here : fid.volume ≡ volume
  pub own : fid.vnode ≡ client
  pub next : fid.uniq ≡ created_in (full_of deeds) + 1

-- each object that the operation mentions is the one that it creates, or was created by its client; and what it creates is its client's next object
pub record AreNamed (cell : PlainCell) (client volume : ℕ) (op : Op) : Type 0 where
  pub known : (fid : Fid) → mentioning fid op ≡ true → IsNext volume (done_on cell client volume) client op fid ⊎ IsMade volume (done_on cell fid.vnode volume) fid
  pub next : (fid : Fid) → creates fid op ≡ true → IsNext volume (done_on cell client volume) client op fid

-- a client has seen what an operation mentions, and is told of what it settles
abbrev pub IsBacked : PlainCell → ℕ → ℕ → Deed → Type 0
IsBacked cell client volume (Operated rec) = AreNamed cell client volume rec.op
IsBacked cell client volume (Froze number home last) = Unit {0}
IsBacked cell client volume (Settled number verdict) = IsToldOf cell client volume number verdict
IsBacked cell client volume Gaveup = Unit {0}

-- a replica decides the operations of a chunk that was sent to it; and it takes over last numbers and objects of replicas that are up
abbrev pub IsGiven : PlainCell → ℕ → ℕ → ReplicaEntry → Type 0
IsGiven cell server volume (Decided client number span) = IsSent cell client server volume number × (span ≡ span_of (done_on cell client volume) number)
IsGiven cell server volume (Resolved objects lasts) =
    ((client : ℕ) → (other : ℕ) × ((cell.replicas other volume).up ≡ true) × (lasts client ≡ last_of volume (cell.replicas other volume).history client))
    × ((fid : Fid) → has (nodes_in objects) fid ≡ true → (other : ℕ) × ((cell.replicas other volume).up ≡ true) × (has (nodes_of volume (cell.replicas other volume).history) fid ≡ true))

-- a client fetches a node that a replica has which is up; what it does on a volume may follow what it did there
abbrev pub MayEnter : PlainCell → ℕ → ClientEntry → Type 0
MayEnter cell client (Fetched fid parent node) =
    (server : ℕ) × (volume : ℕ) × ((cell.replicas server volume).up ≡ true) × (map.get (nodes_of volume (cell.replicas server volume).history) fid ≡ Some node)
MayEnter cell client (Did volume deed) = MayDo (done_on cell client volume) deed × IsBacked cell client volume deed
MayEnter cell client (Dropping gone entry) = MayEnter cell client entry

abbrev pub MayAppend : PlainCell → Append → Type 0
MayAppend cell (AtClient client entry) = ((cell.clients client).up ≡ true) × MayEnter cell client entry
MayAppend cell (AtReplica server volume entry) = ((cell.replicas server volume).up ≡ true) × MayDecide volume (cell.replicas server volume).history entry × IsGiven cell server volume entry

-- a client posts the chunk that it has frozen, and a replica the verdict that it keeps
abbrev pub MayPost : PlainCell → Letter → Type 0
MayPost cell (ChunkSent client server volume number) = IsFrozenFor cell client server volume number
MayPost cell (AnswerSent server client volume number (Ruled verdict)) = IsKeptBy cell client server volume number verdict
MayPost cell (AnswerSent server client volume number (Behind last)) = Unit {0}
MayPost cell (AnswerSent server client volume number (Old last)) = Unit {0}
MayPost cell (BreakSent server client fids) = Unit {0}

abbrev pub May : PlainCell → Move → Type 0
May cell (Does append) = MayAppend cell append
May cell (Fails append) = MayAppend cell append
May cell (Posts letter) = MayPost cell letter
May cell (Loses message) = Unit {0}
May cell (Crashes who) = Unit {0}
May cell (Recovers who joins) = Unit {0}

-- from a cell, the moves may happen in turn, and leave another
abbrev pub Moved : PlainCell → List Move → PlainCell → Type 0
Moved old [] new = new ≡ old
Moved old (move ∷ moves) new = May old move × Moved (after old move) moves new
