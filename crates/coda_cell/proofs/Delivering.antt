-- That letters are delivered and lost as lines say it.
use Rattle.std.proofs.Common.{◌≡◌, ℕ, Bool, true, false, cond, List, Option, Some, None, Result, Ok, Err, refl, sym, inl, inr}
use Rattle.coda_fid.specs.declared.op.Record.{Record}
use Rattle.coda_cancel.specs.Cancel.{fold}
use Rattle.coda_record.specs.declared.answer.Answer.{Answer}
use Rattle.coda_wire.specs.declared.message.Message.{Message}
use Rattle.coda_wire.specs.declared.message.Message.TheVariants.{Chunk, Verdict}
use Rattle.coda_net.specs.Pool.{Pool, is_down, link_of}
use Rattle.coda_letters.specs.Sent.{Sent, ChunkSent, AnswerSent, BreakSent, message_of, client_of, server_of, Waiting, sent_at}
use Rattle.coda_letters.specs.Calls.{DeliversTo, Delivers as LettersDeliver}
use Rattle.coda_letters.specs.declared.fault.LetterFault.{LetterFault}
use Rattle.coda_letters.specs.declared.fault.LetterFault.TheVariants as letter
use Rattle.coda_plain.specs.Decisions.{sent_of}

-- a message came: that of a letter which waits, over a link that is up
pub record Came (waiting : Waiting) (net : Pool) (number : ℕ) (m : Message) : Type 0 where
  pub sent : Sent
  pub at : sent_at number waiting ≡ Some sent
  pub says : message_of sent ≡ m
  pub up : is_down (link_of net (client_of sent) (server_of sent)) ≡ false

pub came : (waiting : Waiting) (net : Pool) (number : ℕ) (m : Message) → LettersDeliver waiting net number (Ok m) → Came waiting net number m
came waiting net number m (inl memory) = cc
came waiting net number m (inr to) = by (sent_at number waiting) refl to
  where
    up : (sent : Sent) (down : Bool) → (let r : Result Message LetterFault = Ok m in let s : Result Message LetterFault = cond down (Err letter.LinkDown) (Ok (message_of sent)) in r ≡ s) → (message_of sent ≡ m) × (down ≡ false)
    up sent true e = cc
    up sent false e = ((let same : m ≡ message_of sent = cc in sym same), refl)

    by : (o : Option Sent) → sent_at number waiting ≡ o → DeliversTo net number o (Ok m) → Came waiting net number m
    by None is e = cc
    by (Some sent) is e = (let u = up sent (is_down (link_of net (client_of sent) (server_of sent))) e in record { sent = sent; at = is; says = u.0; up = u.1 })

-- a chunk came, and so did an answer
pub chunk_of : (sent : Sent) (client server volume number : ℕ) (recs : List Record) → message_of sent ≡ Chunk client server volume number recs → (span : List Record) × (recs ≡ sent_of span) × (sent ≡ ChunkSent client server volume number span)
chunk_of (ChunkSent c s v n span) client server volume number recs e = (span, (let same : fold span ≡ recs = cc in sym same), cc)
chunk_of (AnswerSent s c v n answer) client server volume number recs e = cc
chunk_of (BreakSent s c v fids) client server volume number recs e = cc

pub answer_of : (sent : Sent) (server client volume number : ℕ) (answer : Answer) → message_of sent ≡ Verdict server client volume number answer → sent ≡ AnswerSent server client volume number answer
answer_of (ChunkSent c s v n span) server client volume number answer e = cc
answer_of (AnswerSent s c v n a) server client volume number answer e = cc
answer_of (BreakSent s c v fids) server client volume number answer e = cc
