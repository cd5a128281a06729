-- What a line comes to that sends, delivers or loses a letter.
use Rattle.std.specs.Prelude.{ℕ, ◌+◌, List, [], ◌∷◌, ◌++◌, map, Option, Some, None, Result, Ok, Err}
use Rattle.coda_certify.specs.declared.verdict.Verdict.TheVariants as verdict
use Rattle.coda_fid.specs.declared.op.Record.{Record}
use Rattle.coda_record.specs.declared.answer.Answer.{Answer}
use Rattle.coda_record.specs.declared.answer.Answer.TheVariants.{Applied, Conflict, Behind, Old}
use Rattle.coda_script.specs.declared.line.Strength.{Strength}
use Rattle.coda_script.specs.declared.line.Strength.TheVariants.{Strong, Weak, Down}
use Rattle.coda_script.specs.declared.reply.Reply.{Reply}
use Rattle.coda_script.specs.declared.reply.Reply.TheVariants as reply
use Rattle.coda_script.specs.declared.reply.Undecided.TheVariants as undecided
use Rattle.coda_letters.specs.Sent.{Sent, ChunkSent, AnswerSent, Waiting, put_out, number_of}
use Rattle.coda_cell.specs.Asking.{Said}
use Rattle.coda_cell.specs.State.{ClientVolume, ReplicaState, CellState, Event, Posted, Lost}
use Rattle.coda_cell.specs.Sending.{Freezing, freezing, Ruling, ruling, Taking, taking, deeds_at, entries_at, reply_answer}
use Rattle.coda_cell.specs.Refused.{Refused}
use Rattle.coda_cell.specs.Refused.{LinkDown}

-- a reply or a refusal, and what happens
pub record Ending : Type 0 where
  pub said : Said
  pub events : List Event

-- a refusal, by which nothing happens
abbrev pub refuses : Refused → Ending
refuses why = record { said = Err why; events = [] }

-- what goes over a link, where that is up
abbrev pub over : {A : Type 0} → Strength → Result A Refused → Result A Refused
over Strong r = r
over Weak r = r
over Down r = Err LinkDown

-- ---- letters

-- something is posted: as few of the oldest letters that may be lost go as make the rest and the new one fit
abbrev pub posting : Sent → Waiting → List Event
posting sent waiting = map (λ l. Lost l.0) (put_out sent waiting) ++ Posted sent ∷ []

-- a letter by its number, and what happens for it
pub record Going : Type 0 where
  pub message : ℕ
  pub events : List Event

-- the letter that says something already, or a new one
abbrev pub going_by : Option ℕ → Sent → CellState → Going
going_by (Some message) sent s = record { message = message; events = [] }
going_by None sent s = record { message = s.posted + 1; events = posting sent s.waiting }

abbrev pub going : Sent → CellState → Going
going sent s = going_by (number_of sent s.waiting) sent s

-- ---- a client sends a chunk

abbrev pub sends_of : CellState → ℕ → ℕ → ℕ → Result Freezing Refused → Ending
sends_of s client volume server (Err why) = refuses why
sends_of s client volume server (Ok f) = record {
  said = Ok (reply.Sent (going (ChunkSent client server volume f.number f.span) s).message f.number);
  events = deeds_at client volume f.deeds ++ (going (ChunkSent client server volume f.number f.span) s).events;
}

-- The chunk that is frozen for a server, or one that is frozen now, goes out in a letter; where a letter waits that says the same, that
-- one is named.
abbrev pub sends : CellState → ℕ → ℕ → ℕ → ℕ → ClientVolume → Ending
sends s client volume server window v = sends_of s client volume server (over (s.links client server) (freezing s.clock window server v))

-- ---- a letter is delivered

-- the replica rules on a chunk, and its answer goes out in a letter
abbrev pub ruled_in : CellState → ℕ → ℕ → ℕ → ℕ → Result Ruling Refused → Ending
ruled_in s client server volume number (Err why) = refuses why
ruled_in s client server volume number (Ok ruling) = record {
  said = Ok (reply.Delivered number (reply_answer ruling.answer) (s.posted + 1));
  events = entries_at server volume ruling.entries ++ posting (AnswerSent server client volume number ruling.answer) s.waiting;
}

abbrev pub chunk_comes : CellState → ℕ → ℕ → ℕ → ℕ → List Record → ReplicaState → Ending
chunk_comes s client server volume number span r = ruled_in s client server volume number (ruling client number span r)

-- an answer that was taken: a verdict settles the chunk, and any other leaves it frozen
abbrev pub reply_taken : ℕ → Answer → Reply
reply_taken number Applied = reply.Settled number verdict.Applied
reply_taken number (Conflict refused why) = reply.Settled number (verdict.Conflict refused why)
reply_taken number (Behind last) = reply.StillFrozen number (undecided.Behind last)
reply_taken number (Old last) = reply.StillFrozen number (undecided.Old last)

abbrev pub taken_in : ℕ → ℕ → ℕ → Answer → Result Taking Refused → Ending
taken_in client volume number answer (Err why) = refuses why
taken_in client volume number answer (Ok taking) = record { said = Ok (reply_taken number answer); events = deeds_at client volume taking.deeds }

-- the client takes the answer to a chunk
abbrev pub answer_comes : ℕ → ℕ → ℕ → Answer → ClientVolume → Ending
answer_comes client volume number answer v = taken_in client volume number answer (taking number answer v)
