-- What is pending stands where it was made.
use Rattle.std.specs.Prelude.{◌≡◌, ℕ, Bool, true, false, ◌||◌, ◌&&◌, not, Some, None, List, [], ◌∷◌, ◌++◌, IsSome}
use Rattle.std.specs.FinMap as map
use Rattle.coda_fid.specs.declared.fid.Fid.{Fid}
use Rattle.coda_fid.specs.declared.op.Record.{Record}
use Rattle.coda_tree.specs.Volume.{IsDirAt}
use Rattle.coda_cancel.specs.Dropping.{mentioning, creates}
use Rattle.coda_cml.specs.State.{LogState}
use Rattle.coda_cml.specs.Steady.{any_record, makes_in, unbinds}
use Rattle.coda_journal.specs.declared.header.Header.{Header}
use Rattle.coda_plain.specs.Histories.{DoFollow}
use Rattle.coda_record.specs.declared.entry.ClientEntry.{ClientEntry}
use Rattle.coda_record.specs.declared.entry.ClientEntry.TheVariants as entry
use Rattle.coda_venus.specs.Accepting.{is_mentioned}
use Rattle.coda_venus.specs.Held.{Held, Parents}
use Rattle.coda_venus.specs.History.{Payload, IsHistory, MayEnter, state_of}
use Rattle.coda_venus.specs.State.{ClientState, client_after, new_client}
use Rattle.coda_venus.specs.Serving.{ServingClient}
use Rattle.coda_rounds.specs.Laws.{MentionsOnlyVolume}
use Rattle.coda_rounds.specs.Entering.{StandWhereMade}

-- ---- what is premised

-- The parent of each object that has one is a directory that is held, of the object's volume.
pub record AreInDirs (held : Held) : Type 0 where
  pub dirs : (f p : Fid) → map.get held.parents f ≡ Some p → IsDirAt held.nodes p
  pub within : (f p : Fid) → map.get held.parents f ≡ Some p → f.volume ≡ p.volume

-- an operation mentions objects of its volume alone
abbrev pub KeepsToVolume : ClientEntry → Type 0
KeepsToVolume (entry.Op volume rec) = (f : Fid) → mentioning f rec.op ≡ true → f.volume ≡ volume
KeepsToVolume _ = Unit {0}

-- each of the entries finds objects in directories, and is of one volume
abbrev pub AreInVolumes : ClientState → Payload → Type 0
AreInVolumes c [] = Unit {0}
AreInVolumes c (first ∷ entries) = AreInDirs c.held × KeepsToVolume first × AreInVolumes (client_after c first) entries

-- so it is with each payload of a history
abbrev pub IsInVolumes : Header → List Payload → Type 0
IsInVolumes header history = DoFollow (λ past payload. AreInVolumes (state_of header past) payload) [] history

-- ---- what is kept

-- whether one of the records creates the object, and none before it takes the object from where it is bound
abbrev pub is_made_again : Fid → List Record → Bool
is_made_again f [] = false
is_made_again f (rec ∷ recs) = creates f rec.op || (not (unbinds f rec.op) && is_made_again f recs)

-- What a record made in a directory, by the records behind it: it is of the volume; they don't make it again while it
-- is bound; and where none of them takes it from there, it is held in that directory.
pub record StaysThere (volume : ℕ) (parents : Parents) (behind : List Record) (dir f : Fid) : Type 0 where
  pub within : f.volume ≡ volume
  pub once : is_made_again f behind ≡ false
  pub there : any_record (unbinds f) behind ≡ false → map.get parents f ≡ Some dir

-- so it is with all that the records of a volume made
abbrev pub StayThere : ℕ → Parents → List Record → Type 0
StayThere volume parents [] = Unit {0}
StayThere volume parents (rec ∷ recs) =
    ((dir f : Fid) → makes_in dir f rec.op ≡ true → StaysThere volume parents recs dir f)
    × StayThere volume parents recs

-- And so with the log of a volume: its chunk, which is empty where none is frozen, and the records behind that.
pub record IsPlacedLog (volume : ℕ) (parents : Parents) (log : LogState) : Type 0 where
  pub thaws : log.frozen ≡ None → log.chunk ≡ []
  pub stay : StayThere volume parents (log.chunk ++ log.records)

-- each object with a parent is held
abbrev pub AreHeld : Held → Type 0
AreHeld held = (f p : Fid) → map.get held.parents f ≡ Some p → IsSome (map.get held.nodes f)

-- So it is with each log of a client; and each object with a parent is held.
pub record ArePlaced (c : ClientState) : Type 0 where
  pub held : AreHeld c.held
  pub logs : (volume : ℕ) → IsPlacedLog volume c.held.parents (c.volumes volume).log

-- What is pending stands where it was made: at a client that was just made; behind each entry that may follow, where
-- what is held is in directories of its volume and an operation is of one volume; and so behind each such history. For
-- an rmdir finds nothing below its directory that its volume's log mentions, and below another object nothing is held.
pub record ObjectsStandWhereMade : Type 0 where
  pub first : (number blocks : ℕ) → ArePlaced (new_client number blocks)
  pub then_too : (c : ClientState) (next : ClientEntry) → ArePlaced c → AreInDirs c.held → KeepsToVolume next
      → MayEnter c next → ArePlaced (client_after c next)
  pub stand : (s : ServingClient) (volume : ℕ) → ArePlaced s.client → StandWhereMade s volume
  pub always : (header : Header) (history : List Payload) → IsHistory header history → IsInVolumes header history
      → ArePlaced (state_of header history)

-- ---- volumes

-- each log of a client mentions objects of its volume alone
abbrev pub AreOfTheirVolumes : ClientState → Type 0
AreOfTheirVolumes c = (volume : ℕ) (f : Fid) → is_mentioned (c.volumes volume) f ≡ true → f.volume ≡ volume

-- Each log mentions objects of its volume alone: at a client that was just made; behind each entry, where an operation
-- is of one volume; and so behind each such history.
pub record LogsKeepToTheirVolumes : Type 0 where
  pub first : (number blocks : ℕ) → AreOfTheirVolumes (new_client number blocks)
  pub then_too : (c : ClientState) (next : ClientEntry) → AreOfTheirVolumes c → KeepsToVolume next
      → AreOfTheirVolumes (client_after c next)
  pub within : (s : ServingClient) (volume : ℕ) → AreOfTheirVolumes s.client → MentionsOnlyVolume s volume
  pub always : (header : Header) (history : List Payload) → IsInVolumes header history
      → AreOfTheirVolumes (state_of header history)
