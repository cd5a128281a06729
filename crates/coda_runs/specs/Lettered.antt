-- What replies tell of letters, and what letters say.
use Rattle.std.specs.Prelude.{◌≡◌, ◌≢◌, ◌≤◌, ℕ, List, Some, None}
use Rattle.coda_fid.specs.declared.fid.Fid.{Fid}
use Rattle.coda_fid.specs.declared.op.Record.{Record}
use Rattle.coda_engine.specs.Run.{Runs}
use Rattle.coda_certify.specs.declared.verdict.Verdict.{Verdict}
use Rattle.coda_certify.specs.declared.verdict.Verdict.TheVariants as verdicts
use Rattle.coda_record.specs.declared.answer.Answer.{Answer}
use Rattle.coda_record.specs.declared.answer.Answer.TheVariants.{Applied, Conflict, Behind, Old}
use Rattle.coda_letters.specs.Sent.{Sent, ChunkSent, AnswerSent, BreakSent, client_of, server_of, Waiting, letter_of, sent_at, with_sent}
use Rattle.coda_plain.specs.Deeds.{chunks_of}
use Rattle.coda_plain.specs.Histories.{In}
use Rattle.coda_script.specs.declared.line.Line.{Line}
use Rattle.coda_script.specs.declared.line.Line.TheVariants as line
use Rattle.coda_script.specs.declared.reply.Answer.{Answer as ReplyAnswer}
use Rattle.coda_script.specs.declared.reply.Answer.TheVariants as replied
use Rattle.coda_script.specs.declared.reply.Undecided.{Undecided}
use Rattle.coda_script.specs.declared.reply.Undecided.TheVariants as undecided
use Rattle.coda_script.specs.declared.reply.Reply.{Reply}
use Rattle.coda_script.specs.declared.reply.Reply.TheVariants.{Sent as ChunkWent, Delivered, Settled, StillFrozen, Broken, Lost}
use Rattle.coda_cell.specs.Steps.{first_missing, on_holder}
use Rattle.coda_shelves.specs.Shelves.{Shelves, Found}
use Rattle.coda_shelves.specs.Cells.{Cell, begun_on, state_of}
use Rattle.coda_shelves.specs.Kept.{deeds_in, IsDecided}
use Rattle.coda_shelves.specs.Lines.{Happens}
use Rattle.coda_runs.specs.Headline.{InEachKept, InFound}
use Rattle.coda_runs.specs.Shelved.{LineGives}

-- ---- what a reply tells

-- the answer that is a verdict
abbrev pub answer_with : Verdict → Answer
answer_with verdicts.Applied = Applied
answer_with (verdicts.Conflict refused why) = Conflict refused why

-- the answer to a chunk, as its delivery is replied to
abbrev pub answer_told : ReplyAnswer → Answer
answer_told (replied.Decided verdict) = answer_with verdict
answer_told (replied.Behind last) = Behind last
answer_told (replied.Old last) = Old last

-- the answer that leaves a chunk frozen, as its delivery is replied to
abbrev pub undecided_told : Undecided → Answer
undecided_told (undecided.Behind last) = Behind last
undecided_told (undecided.Old last) = Old last

-- under a number a letter waits that is letter for letter the one of this: its ends and its bytes are the same
pub record WaitsUnder (waiting : Waiting) (number : ℕ) (sent : Sent) : Type 0 where
  pub waits : Sent
  pub at : sent_at number waiting ≡ Some waits
  pub same : letter_of waits ≡ letter_of sent

-- A chunk of the client waits under the number that is named. Where a letter waited that is letter for letter this one, no letter is added
-- or lost, and none such has a smaller number; where none did, it is put behind those that wait, of which as few of the oldest that may be lost go as
-- make room for it.
pub record WentAs (client volume server number message : ℕ) (old new : Waiting) : Type 0 where
  pub span : List Record
  pub goes : WaitsUnder new message (ChunkSent client server volume number span)
  pub once : (before : ℕ) → WaitsUnder old before (ChunkSent client server volume number span) → (new ≡ old) × (message ≤ before)
  pub stays : ((before : ℕ) → WaitsUnder old before (ChunkSent client server volume number span) → ⊥) → new ≡ with_sent message (ChunkSent client server volume number span) old

abbrev pub SendTells : ℕ → ℕ → ℕ → Reply → Waiting → Waiting → Type 0
SendTells client volume server (ChunkWent message number) old new = WentAs client volume server number message old new
SendTells client volume server _ old new = new ≡ old

-- A chunk came, from whom and for which volume; the answer that is told goes back to its client in a new letter, under the number that is
-- named. The letter that came is not taken away by that.
pub record CameFor (old new : Waiting) (message number answered : ℕ) (answer : Answer) : Type 0 where
  pub client : ℕ
  pub server : ℕ
  pub volume : ℕ
  pub span : List Record
  pub came : sent_at message old ≡ Some (ChunkSent client server volume number span)
  pub goes : WaitsUnder new answered (AnswerSent server client volume number answer)
  pub stays : new ≡ with_sent answered (AnswerSent server client volume number answer) old

-- the answer that is told came, and all that waited waits on
pub record Brought (old new : Waiting) (message number : ℕ) (answer : Answer) : Type 0 where
  pub client : ℕ
  pub server : ℕ
  pub volume : ℕ
  pub came : sent_at message old ≡ Some (AnswerSent server client volume number answer)
  pub stays : new ≡ old

-- a break came, and all that waited waits on
pub record BreakCame (old new : Waiting) (message : ℕ) : Type 0 where
  pub server : ℕ
  pub client : ℕ
  pub volume : ℕ
  pub fids : List Fid
  pub came : sent_at message old ≡ Some (BreakSent server client volume fids)
  pub stays : new ≡ old

-- The letter that was delivered said the chunk or the answer of which the reply tells, or was a break; the answer to a chunk waits under the
-- number that the reply names.
abbrev pub DeliveryTells : ℕ → Reply → Waiting → Waiting → Type 0
DeliveryTells message (Delivered number answer answered) old new = CameFor old new message number answered (answer_told answer)
DeliveryTells message (Settled number verdict) old new = Brought old new message number (answer_with verdict)
DeliveryTells message (StillFrozen number why) old new = Brought old new message number (undecided_told why)
DeliveryTells message (Broken copies) old new = BreakCame old new message
DeliveryTells message _ old new = new ≡ old

-- the letter of this number waited and waits no more, and all others are as they were
pub record WasLost (message : ℕ) (old new : Waiting) : Type 0 where
  pub sent : Sent
  pub waited : sent_at message old ≡ Some sent
  pub gone : sent_at message new ≡ None
  pub others : (other : ℕ) → other ≢ message → sent_at other new ≡ sent_at other old

abbrev pub LossTells : ℕ → Reply → Waiting → Waiting → Type 0
LossTells message (Lost number) old new = (number ≡ message) × WasLost message old new
LossTells message _ old new = new ≡ old

-- what the reply to a line tells of letters, by those that waited before it and those behind it; no line but these three touches them
abbrev pub TellsLetters : Line → Reply → Waiting → Waiting → Type 0
TellsLetters (line.Send client volume server window) reply old new = SendTells client volume server reply old new
TellsLetters (line.Deliver message) reply old new = DeliveryTells message reply old new
TellsLetters (line.Lose message) reply old new = LossTells message reply old new
TellsLetters _ reply old new = new ≡ old

-- In every cell that is kept, a reply that names a letter names one in which what it tells of waits.
abbrev pub RepliesNameLetters : Type 0
RepliesNameLetters = InEachKept (λ cell. (said : Line) (reply : Reply) (outside : List (List ℕ)) (new : Cell) → Happens cell said reply outside new → TellsLetters said reply cell.waiting new.waiting)

-- ---- what a letter says

-- A chunk on its way is one that its client froze for this server, of the operations that it froze; and a verdict on its way back is that
-- of a decision, which stands on a disk of the volume. No letter is a break.
abbrev pub IsSo : Found → Sent → Type 0
IsSo f (ChunkSent client server volume number span) = In (record { number = number; home = server; span = span }) (chunks_of (deeds_in f client volume))
IsSo f (AnswerSent server client volume number answer) = (verdict : Verdict) → answer ≡ answer_with verdict → IsDecided f volume client number verdict
IsSo f (BreakSent server client volume fids) = ⊥

-- In every cell that is kept, what a letter says that waits is so, however long it waited and whatever else was lost or came twice, also by what would be found on disks,
-- whichever of the entries join whose appends failed.
abbrev pub LettersSayWhatIsSo : Type 0
LettersSayWhatIsSo = InEachKept (λ cell. (message : ℕ) (sent : Sent) → sent_at message cell.waiting ≡ Some sent → InFound cell (λ f. IsSo f sent))

-- ---- the ends of a letter

-- the volume of which a letter is
abbrev pub volume_of : Sent → ℕ
volume_of (ChunkSent client server volume number span) = volume
volume_of (AnswerSent server client volume number answer) = volume
volume_of (BreakSent server client volume fids) = volume

-- the client, the volume and the server of each letter that waits are there, so that none is refused for an actor that isn't
abbrev pub AreAddressed : Cell → Type 0
AreAddressed cell = (number : ℕ) (sent : Sent) → sent_at number cell.waiting ≡ Some sent → first_missing (on_holder (state_of cell) (client_of sent) (volume_of sent) (server_of sent)) ≡ None

-- The ends of each letter that waits are there: whatever lines ran, over whatever stood on disks; and whatever lines ran from a cell that is kept in which they are.
pub record LettersHaveEnds : Type 0 where
  pub first : (shelves : Shelves) (cell : Cell) (ls : List (List ℕ)) (report : List ℕ) (outside : List (List ℕ)) → Runs LineGives (begun_on shelves) ls report outside cell → AreAddressed cell
  pub each : InEachKept (λ cell. AreAddressed cell → (ls : List (List ℕ)) (report : List ℕ) (outside : List (List ℕ)) (new : Cell) → Runs LineGives cell ls report outside new → AreAddressed new)
