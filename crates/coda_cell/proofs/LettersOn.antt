-- Letters that wait stay what they are, whatever actors do.
use Rattle.std.proofs.Common.{◌≡◌, ℕ, List, [], ◌∷◌, ◌++◌, append_assoc, append-nil, Some, sym, ap, ◌∙◌, subst}
use Rattle.coda_plain.specs.Histories.{In}
use Rattle.coda_plain.specs.Deeds.{Deed, Chunk, chunk_at, chunks_of, span_of, AreLawful}
use Rattle.coda_plain.specs.Cell.{deeds_of, PlainCell}
use Rattle.coda_plain.specs.Logs.{BeginsWith}
use Rattle.coda_plain.specs.Moves.{Move, done_on, Moved}
use Rattle.coda_plain.specs.Sound.{IsSound}
use Rattle.coda_plain.proofs.Chunking.{numbered}
use Rattle.coda_plain.proofs.Lists.{told_more}
use Rattle.coda_plain.proofs.Soundness.{none_joins, runs_sound}
use Rattle.coda_plain.proofs.Staying.{clients_run}
use Rattle.coda_letters.specs.Sent.{Sent, ChunkSent, AnswerSent, BreakSent, Waiting}
use Rattle.coda_cell.specs.Made.{MadeCell, plain_letter}
use Rattle.coda_cell.specs.Runs.{AreNumbered, IsSaid, ArePooled, AreLettersOf}
use Rattle.coda_cell.proofs.Moving.{deeds_both}

-- a chunk that was frozen is one of those that were frozen after more deeds
chunk_stays : (chunk : Chunk) (deeds more : List Deed) → In chunk (chunks_of deeds) → In chunk (chunks_of (deeds ++ more))
chunk_stays chunk deeds [] i = subst (λ ds. In chunk (chunks_of ds)) (sym (append-nil deeds)) i
chunk_stays chunk deeds (deed ∷ more) i = subst (λ ds. In chunk (chunks_of ds)) (append_assoc deeds (deed ∷ []) more) (chunk_stays chunk (deeds ++ deed ∷ []) more (told_more chunk_at deeds deed chunk i))

-- so its operations stay the same
span_stays : (chunk : Chunk) (deeds more : List Deed) → AreLawful deeds → AreLawful (deeds ++ more) → In chunk (chunks_of deeds) → span_of (deeds ++ more) chunk.number ≡ span_of deeds chunk.number
span_stays chunk deeds more law all i = (numbered (deeds ++ more) all).own chunk (chunk_stays chunk deeds more i) ∙ sym ((numbered deeds law).own chunk i)

module _ (moves : List Move) (old new : PlainCell) (sound : IsSound old) (moved : Moved old moves new) where
  said_on : (message : ℕ) (sent : Sent) → old.pool message ≡ Some (plain_letter sent) → IsSaid old sent → IsSaid new sent
  said_on message (ChunkSent client server volume number span) there is =
      let begins : BeginsWith (new.clients client).history (old.clients client).history = clients_run moves old new moved client in
      let past = done_on old client volume in
      let more = deeds_of volume begins.0 in
      let deeds : done_on new client volume ≡ past ++ more = ap (deeds_of volume) begins.1 ∙ deeds_both volume (old.clients client).history begins.0 in
      let frozen = (sound.agree none_joins).sent message client server volume number there in
      let law = (sound.agree none_joins).lawful client volume in
      let all = subst AreLawful deeds (((runs_sound moves old new sound moved).agree none_joins).lawful client volume) in
      is ∙ sym (span_stays (record { number = number; home = server; span = frozen.0 }) past more law all frozen.1) ∙ sym (ap (λ ds. span_of ds number) deeds)
  said_on message (AnswerSent server client volume number answer) there is = tt
  said_on message (BreakSent server client volume fids) there is = absurd is

  pooled_on : new.pool ≡ old.pool → (waiting : Waiting) → ArePooled old waiting → ArePooled new waiting
  pooled_on same [] are = tt
  pooled_on same (l ∷ waiting) are = (ap (λ pool. pool l.0) same ∙ are.0, said_on l.0 l.1 are.0 are.1, pooled_on same waiting are.2)

pub letters_on : (moves : List Move) (old new : MadeCell) → IsSound old.acted → Moved old.acted moves new.acted → AreLettersOf old → new.waiting ≡ old.waiting → new.acted.pool ≡ old.acted.pool → new.acted.posted ≡ old.acted.posted → AreLettersOf new
letters_on moves old new sound moved letters waiting pool posted = record {
  numbered = subst (λ w. AreNumbered 0 new.acted.posted w) (sym waiting) (subst (λ n. AreNumbered 0 n old.waiting) (sym posted) letters.numbered);
  pooled = subst (ArePooled new.acted) (sym waiting) (pooled_on moves old.acted new.acted sound moved pool old.waiting letters.pooled);
}
