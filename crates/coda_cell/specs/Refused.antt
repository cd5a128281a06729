-- Why a line isn't carried out. It changes nothing but what it fetched on the way.
use Rattle.std.specs.Prelude.{ℕ}
use Rattle.coda_fid.specs.declared.fid.Fid.{Fid}

pub data Refused : Type 0 where
  -- a name of the path isn't bound
  NotFound : Refused
  -- what must be a directory is none
  NotDir : Refused
  -- the log would have more than 4,096 records with the operation, or weigh more than 16 MiB
  LogFull : Refused
  -- the log has no record to send
  Nothing : Refused
  -- the newest operation that would be sent is so many seconds old, and must be as old as the window
  Young : (age window : ℕ) → Refused
  -- the chunk of this number is frozen, for this server
  Frozen : (number home : ℕ) → Refused
  -- an answer came to the chunk of this number, and none is frozen
  NotFrozen : (number : ℕ) → Refused
  -- the chunk of the first number is frozen, and an answer came to the second
  WrongNumber : (kept number : ℕ) → Refused
  -- a history has as many entries of a kind as there may be
  JournalFull : Refused
  -- the new name is bound, or the path is that of the root, or the new fid is in use
  Exists : Refused
  -- what must be no directory is one
  IsDir : Refused
  -- the directory binds something, or an object is held below it that the log mentions
  NotEmpty : Refused
  -- a directory would come to stand below itself, or the root is to go
  Loop : Refused
  -- an object on the way isn't held and can't be fetched
  Miss : (fid : Fid) → Refused
  -- the content has so many bytes, and more than a file may have
  TooBig : (length : ℕ) → Refused
  -- the link between the client and the server is down
  LinkDown : Refused
  -- an actor of this number isn't there
  NoSuchActor : (number : ℕ) → Refused
  -- the actor is there already
  AlreadyThere : Refused
  -- the cell has as many volumes as it may have, or areas of as many MiB
  CellFull : Refused
  -- what must be a file is a link
  NotFile : Refused
  -- no message of this number is on its way
  NoMessage : (number : ℕ) → Refused
  -- the bytes of the message are none, from this offset on
  BadMessage : (at : ℕ) → Refused
  -- there was no memory, which ends the run
  Memory : Refused
