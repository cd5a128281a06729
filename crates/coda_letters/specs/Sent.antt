-- Letters as what they say: a client's chunk on its way to a server, the answer to it on its way back, or a server's break.
use Rattle.std.specs.Prelude.{◌≡◌, ℕ, zero, suc, Bool, true, false, nat_eq, List, [], ◌∷◌, ◌++◌, map, take, Option, if◌then◌else◌}
use Rattle.std.specs.List.{filter}
use Rattle.std.specs.Map.{lookup, remove_entry}
use Rattle.coda_fid.specs.declared.fid.Fid.{Fid}
use Rattle.coda_fid.specs.declared.op.Record.{Record}
use Rattle.coda_cancel.specs.Cancel.{fold}
use Rattle.coda_record.specs.declared.answer.Answer.{Answer}
use Rattle.coda_record.specs.Spelling.{HasSpelling}
use Rattle.coda_wire.specs.declared.message.Message.{Message}
use Rattle.coda_wire.specs.declared.message.Message.TheVariants.{Chunk, Verdict, Break}
use Rattle.coda_wire.specs.Table.{message}
use Rattle.coda_net.specs.declared.letter.Letter.{Letter}
use Rattle.coda_net.specs.Pool.{Letters, Pool, lost_for, found}

-- What is sent. The operations of a chunk are those that it was frozen with: they aren't on its way, what cancellation leaves of them is.
pub data Sent : Type 0 where
  ChunkSent : (client server volume number : ℕ) (span : List Record) → Sent
  AnswerSent : (server client volume number : ℕ) (answer : Answer) → Sent
  -- a server tells a client that these objects of a volume changed
  BreakSent : (server client volume : ℕ) (fids : List Fid) → Sent

-- the message that says it
abbrev pub message_of : Sent → Message
message_of (ChunkSent client server volume number span) = Chunk client server volume number (fold span)
message_of (AnswerSent server client volume number answer) = Verdict server client volume number answer
message_of (BreakSent server client volume fids) = Break server client volume fids

-- it can be said: each number and name of it is in its range
abbrev pub CanBeSent : Sent → Type 0
CanBeSent sent = HasSpelling message (message_of sent)

abbrev pub client_of : Sent → ℕ
client_of (ChunkSent client server volume number span) = client
client_of (AnswerSent server client volume number answer) = client
client_of (BreakSent server client volume fids) = client

abbrev pub server_of : Sent → ℕ
server_of (ChunkSent client server volume number span) = server
server_of (AnswerSent server client volume number answer) = server
server_of (BreakSent server client volume fids) = server

-- whether it goes from the client to the server
abbrev pub is_to_server : Sent → Bool
is_to_server (ChunkSent client server volume number span) = true
is_to_server (AnswerSent server client volume number answer) = false
is_to_server (BreakSent server client volume fids) = false

-- whether it may be lost for the limits: all but a break
abbrev pub is_lossy : Sent → Bool
is_lossy (ChunkSent client server volume number span) = true
is_lossy (AnswerSent server client volume number answer) = true
is_lossy (BreakSent server client volume fids) = false

abbrev pub bytes_of : Sent → List ℕ
bytes_of sent = (message.piece (message_of sent)).bytes

-- the letter of it
abbrev pub letter_of : Sent → Letter
letter_of sent = record { client = client_of sent; server = server_of sent; to_server = is_to_server sent; lossy = is_lossy sent; bytes = bytes_of sent }

-- what waits, by the numbers of its letters, in their order
abbrev pub Waiting : Type 0
Waiting = List (ℕ × Sent)

abbrev pub numbered : ℕ × Sent → ℕ × Letter
numbered l = (l.0, letter_of l.1)

abbrev pub letters_of : Waiting → Letters
letters_of waiting = map numbered waiting

-- all of it can be said
abbrev pub CanBeSaid : Waiting → Type 0
CanBeSaid [] = Unit {0}
CanBeSaid (l ∷ waiting) = CanBeSent l.1 × CanBeSaid waiting

-- the letters of a network say this, and can
pub record AreLetters (waiting : Waiting) (net : Pool) : Type 0 where
  pub letters : net.letters ≡ letters_of waiting
  pub said : CanBeSaid waiting

-- what the letter of a number says
abbrev pub sent_at : ℕ → Waiting → Option Sent
sent_at number waiting = lookup (nat_eq number) waiting

-- what waits once the letter of a number is lost
abbrev pub without : ℕ → Waiting → Waiting
without number waiting = remove_entry (nat_eq number) waiting

-- how many of the oldest letters a new one puts out: none for a break
abbrev pub lost_by : Sent → Waiting → ℕ
lost_by sent waiting = lost_for (letter_of sent) (letters_of waiting)

-- those that a new one puts out: the oldest of those that may be lost
abbrev pub put_out : Sent → Waiting → Waiting
put_out sent waiting = take (lost_by sent waiting) (filter (λ l. is_lossy l.1) waiting)

-- what waits without so many of the oldest that may be lost
abbrev pub but_oldest : ℕ → Waiting → Waiting
but_oldest zero waiting = waiting
but_oldest (suc count) [] = []
but_oldest (suc count) (l ∷ waiting) = if is_lossy l.1 then but_oldest count waiting else l ∷ but_oldest (suc count) waiting

-- What waits once something is sent under a number: as few of the oldest that may be lost go as make the rest and the new one fit; breaks
-- stay, and none goes for a break.
abbrev pub with_sent : ℕ → Sent → Waiting → Waiting
with_sent number sent waiting = but_oldest (lost_by sent waiting) waiting ++ (number, sent) ∷ []

-- the least number of a letter that says this already
abbrev pub number_of : Sent → Waiting → Option ℕ
number_of sent waiting = found (letters_of waiting) (client_of sent) (server_of sent) (bytes_of sent)
