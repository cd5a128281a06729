-- A cell stays kept by a letter that is posted or lost, and by lines that send, deliver and lose letters.
use Rattle.std.proofs.Common.{◌≡◌, ◌≢◌, ℕ, ◌+◌, ◌≤◌, ◌==◌, Bool, true, false, cond, List, [], ◌∷◌, ◌++◌, append-nil, map, Option, Some, None, option_map, Result, Ok, Err, refl, sym, ap, ◌∙◌, subst, inl, arith}
use Rattle.std.specs.Prelude.{nat_eq}
use Rattle.std.proofs.lemmas.Bool.{eqb-true, ne_eqb}
use Rattle.std.proofs.lemmas.Bool.Decides.{nat_tests}
use Rattle.coda_fid.specs.declared.op.Record.{Record}
use Rattle.coda_cml.specs.Steps.{settle_refusal}
use Rattle.coda_cml.specs.declared.fault.SettleFault.{SettleFault}
use Rattle.coda_cml.specs.declared.fault.SettleFault.TheVariants as settle_fault
use Rattle.coda_cml.specs.declared.frozen.Frozen.{Frozen}
use Rattle.coda_record.specs.declared.answer.Answer.{Answer}
use Rattle.coda_record.specs.declared.answer.Answer.TheVariants.{Applied, Conflict, Behind, Old}
use Rattle.coda_script.specs.declared.line.Strength.{Strength}
use Rattle.coda_script.specs.declared.line.Strength.TheVariants.{Strong, Weak, Down}
use Rattle.coda_plain.specs.Deeds.{Cut, Course, course_of, MaySettle}
use Rattle.coda_plain.specs.Cell.{Letter, ChunkSent as PlainChunk, AnswerSent as PlainAnswer, BreakSent as PlainBreak, Ruled, Behind as PlainBehind, Old as PlainOld, PlainCell}
use Rattle.coda_plain.specs.Moves.{Posts, Loses, after as after_move, done_on, MayPost}
use Rattle.coda_plain.proofs.Soundness.{moves_keep_sound}
use Rattle.coda_letters.specs.Sent.{Sent, ChunkSent, AnswerSent, BreakSent, Waiting, sent_at, put_out, number_of, without}
use Rattle.coda_cell.specs.State.{ClientVolume, ClientState, CellState, Posted, Lost}
use Rattle.coda_cell.specs.Made.{MadeCell, client_of, replica_of, plain_letter, grown, grown_all}
use Rattle.coda_cell.specs.Refusing.{settle_refused_as}
use Rattle.coda_cell.specs.Sending.{Freezing, freezing, Ruling, ruling, Taking, taken_unless, taking, deeds_at, entries_at}
use Rattle.coda_cell.specs.Messages.{over, posting, going_by, sends_of, sends, ruled_in, taken_in}
use Rattle.coda_cell.specs.Runs.{IsKept, IsLeft, AreNumbered, IsSaid, ArePooled}
use Rattle.coda_cell.specs.Refused.{Refused}
use Rattle.coda_cell.proofs.Histories.{volumes_are, shown, frozen_by}
use Rattle.coda_cell.proofs.KeptCells.{lawful}
use Rattle.coda_cell.proofs.KeptChunks.{KeepsAnswer, IsToldAnswer, IsGone, gone, ruled_left, taking_left}
use Rattle.coda_cell.proofs.Moving.{AreLeft, are_left_one, are_left_both, kept_behind}

numbered_more : (before last : ℕ) (waiting : Waiting) (sent : Sent) → before ≤ last → AreNumbered before last waiting → AreNumbered before (last + 1) (waiting ++ (last + 1, sent) ∷ [])
numbered_more before last [] sent low are = (omega (arith, low), omega arith, tt)
numbered_more before last (l ∷ waiting) sent low are = (are.0, (let most = are.1 in omega (arith, most)), numbered_more l.0 last waiting sent are.1 are.2)

module _ (cell : PlainCell) (letter : Letter) where
  abbrev posted : PlainCell
  posted = after_move cell (Posts letter)

  in_pool : (number : ℕ) → number ≤ cell.posted → posted.pool number ≡ cell.pool number
  in_pool number most = ap (λ b. cond b (Some letter) (cell.pool number)) (ne_eqb number (cell.posted + 1) (λ same. omega (arith, most, same)))

  said_posted : (sent : Sent) → IsSaid cell sent → IsSaid posted sent
  said_posted (ChunkSent client server volume number span) is = is
  said_posted (AnswerSent server client volume number answer) is = tt
  said_posted (BreakSent server client volume fids) is = absurd is

  pooled_posted : (before : ℕ) (waiting : Waiting) (sent : Sent) → letter ≡ plain_letter sent → IsSaid cell sent → AreNumbered before cell.posted waiting → ArePooled cell waiting → ArePooled posted (waiting ++ (cell.posted + 1, sent) ∷ [])
  pooled_posted before [] sent same is numbered are = (
    (let here : (cell.posted + 1 == cell.posted + 1) ≡ true = grind (arith, nat_tests) in ap (λ b. cond b (Some letter) (cell.pool (cell.posted + 1))) here ∙ ap Some same),
    said_posted sent is,
    tt,
  )
  pooled_posted before (l ∷ waiting) sent same is numbered are = (in_pool l.0 numbered.1 ∙ are.0, said_posted l.1 are.1, pooled_posted l.0 waiting sent same is numbered.2 are.2)

pub posted_left : (cell : MadeCell) (sent : Sent) → IsKept cell → MayPost cell.acted (plain_letter sent) → IsSaid cell.acted sent → IsLeft cell (Posted sent ∷ [])
posted_left cell sent kept may said = record {
  moved = (may, refl);
  kept = record {
    sound = moves_keep_sound cell.acted (Posts (plain_letter sent)) may kept.sound;
    up = record { clients = kept.up.clients; replicas = kept.up.replicas };
    made = record { numbered = kept.made.numbered; clients = kept.made.clients; replicas = kept.made.replicas };
    holding = λ c b e. (let h = kept.holding c b e in record { under = h.under; forest = h.forest; within = h.within; made = h.made; named = h.named; kept = h.kept });
    letters = record {
      numbered = numbered_more 0 cell.acted.posted cell.waiting sent (omega arith) kept.letters.numbered;
      pooled = pooled_posted cell.acted (plain_letter sent) 0 cell.waiting sent refl said kept.letters.numbered kept.letters.pooled;
    };
  };
  shown = refl;
}

module _ (cell : PlainCell) (message : ℕ) where
  abbrev lost : PlainCell
  lost = after_move cell (Loses message)

  still_in_pool : (number : ℕ) → number ≢ message → lost.pool number ≡ cell.pool number
  still_in_pool number other = ap (λ b. cond b None (cell.pool number)) (ne_eqb number message other)

  said_lost : (sent : Sent) → IsSaid cell sent → IsSaid lost sent
  said_lost (ChunkSent client server volume number span) is = is
  said_lost (AnswerSent server client volume number answer) is = tt
  said_lost (BreakSent server client volume fids) is = absurd is

  -- those above one that is lost
  pooled_above : (before last : ℕ) (waiting : Waiting) → message ≤ before → AreNumbered before last waiting → ArePooled cell waiting → ArePooled lost waiting
  pooled_above before last [] low numbered are = tt
  pooled_above before last (l ∷ waiting) low numbered are = (
    (let above = numbered.0 in still_in_pool l.0 (λ same. omega (arith, low, above, same)) ∙ are.0),
    said_lost l.1 are.1,
    pooled_above l.0 last waiting (let above = numbered.0 in omega (arith, low, above)) numbered.2 are.2,
  )

  numbered_below : (before less last : ℕ) (waiting : Waiting) → less ≤ before → AreNumbered before last waiting → AreNumbered less last waiting
  numbered_below before less last [] low numbered = tt
  numbered_below before less last (l ∷ waiting) low numbered = ((let above = numbered.0 in omega (arith, low, above)), numbered.1, numbered.2)

  numbered_lost : (before last : ℕ) (waiting : Waiting) → AreNumbered before last waiting → AreNumbered before last (without message waiting)
  numbered_lost before last [] numbered = tt
  numbered_lost before last (l ∷ waiting) numbered = elim (nat_eq message l.0) as (λ b. AreNumbered before last (cond b waiting (l ∷ without message waiting))) [
    | true ↦ (let above = numbered.0 in numbered_below l.0 before last waiting (omega (arith, above)) numbered.2)
    | false ↦ (numbered.0, numbered.1, numbered_lost l.0 last waiting numbered.2)
  ]

  pooled_lost : (before last : ℕ) (waiting : Waiting) → AreNumbered before last waiting → ArePooled cell waiting → ArePooled lost (without message waiting)
  pooled_lost before last [] numbered are = tt
  pooled_lost before last (l ∷ waiting) numbered are = elim (nat_eq message l.0) as (λ b. nat_eq message l.0 ≡ b → ArePooled lost (cond b waiting (l ∷ without message waiting))) [
    | true ↦ λ e. pooled_above l.0 last waiting (let same = eqb-true message l.0 e in omega (arith, same)) numbered.2 are.2
    | false ↦ λ e. (still_in_pool l.0 (λ same. let no : message ≢ l.0 = grind (arith, nat_tests, e) in no (sym same)) ∙ are.0, said_lost l.1 are.1, pooled_lost l.0 last waiting numbered.2 are.2)
  ] refl

pub lost_left : (cell : MadeCell) (message : ℕ) → IsKept cell → IsLeft cell (Lost message ∷ [])
lost_left cell message kept = record {
  moved = (tt, refl);
  kept = record {
    sound = moves_keep_sound cell.acted (Loses message) tt kept.sound;
    up = record { clients = kept.up.clients; replicas = kept.up.replicas };
    made = record { numbered = kept.made.numbered; clients = kept.made.clients; replicas = kept.made.replicas };
    holding = λ c b e. (let h = kept.holding c b e in record { under = h.under; forest = h.forest; within = h.within; made = h.made; named = h.named; kept = h.kept });
    letters = record {
      numbered = numbered_lost cell.acted message 0 cell.acted.posted cell.waiting kept.letters.numbered;
      pooled = pooled_lost cell.acted message 0 cell.acted.posted cell.waiting kept.letters.numbered kept.letters.pooled;
    };
  };
  shown = refl;
}

may_post_on : (cell : PlainCell) (message : ℕ) (letter : Letter) → MayPost cell letter → MayPost (after_move cell (Loses message)) letter
may_post_on cell message (PlainChunk client server volume number) may = record { up = may.up; cut = may.cut; frozen = may.frozen; home = may.home; last = may.last }
may_post_on cell message (PlainAnswer server client volume number (Ruled verdict)) may = record { up = may.up; some = may.some; last = may.last }
may_post_on cell message (PlainAnswer server client volume number (PlainBehind last)) may = tt
may_post_on cell message (PlainAnswer server client volume number (PlainOld last)) may = tt
may_post_on cell message (PlainBreak server client fids) may = tt

put_out_left : (going : Waiting) (cell : MadeCell) (sent : Sent) → IsKept cell → MayPost cell.acted (plain_letter sent) → IsSaid cell.acted sent → AreLeft cell (map (λ l. Lost l.0) going ++ Posted sent ∷ [])
put_out_left [] cell sent kept may said = are_left_one cell (Posted sent) (posted_left cell sent kept may said)
put_out_left (l ∷ going) cell sent kept may said =
    let first = lost_left cell l.0 kept in
    (first, put_out_left going (grown cell (Lost l.0)) sent first.kept (may_post_on cell.acted l.0 (plain_letter sent) may) (said_lost cell.acted l.0 sent said))

pub posting_left : (cell : MadeCell) (sent : Sent) (waiting : Waiting) → IsKept cell → MayPost cell.acted (plain_letter sent) → IsSaid cell.acted sent → AreLeft cell (posting sent waiting)
posting_left cell sent waiting kept may said = put_out_left (put_out sent waiting) cell sent kept may said

module _ (cell : MadeCell) (s : CellState) (number blocks : ℕ) (kept : IsKept cell) (there : cell.sizes number ≡ Some blocks) (volume server : ℕ) (homed : cell.homes volume ≡ Some server) (now window : ℕ) where
  abbrev sender : ClientState
  sender = client_of number (cell.acted.clients number).history blocks

  going_left : (f : Freezing) → IsGone cell number server volume f → (o : Option ℕ) → AreLeft cell (deeds_at number volume f.deeds ++ (going_by o (ChunkSent number server volume f.number f.span) s).events)
  going_left f g (Some message) = subst (AreLeft cell) (sym (append-nil (deeds_at number volume f.deeds))) g.left
  going_left f g None = are_left_both cell (deeds_at number volume f.deeds) (posting (ChunkSent number server volume f.number f.span) s.waiting) g.left
      (posting_left (grown_all cell (deeds_at number volume f.deeds)) (ChunkSent number server volume f.number f.span) s.waiting (kept_behind cell (deeds_at number volume f.deeds) g.left) g.frozen g.span)

  sent_left : (o : Result Freezing Refused) → freezing now window server (sender.volumes volume) ≡ o → AreLeft cell (sends_of s number volume server o).events
  sent_left (Err why) e = kept
  sent_left (Ok f) e = going_left f (gone cell number blocks kept there volume server homed now window f e) (number_of (ChunkSent number server volume f.number f.span) s.waiting)

pub sends_left : (cell : MadeCell) (s : CellState) (number blocks : ℕ) → IsKept cell → cell.sizes number ≡ Some blocks → (volume server : ℕ) → cell.homes volume ≡ Some server → (window : ℕ)
    → AreLeft cell (sends s number volume server window ((client_of number (cell.acted.clients number).history blocks).volumes volume)).events
sends_left cell s number blocks kept there volume server homed window = by (s.links number server)
  where
    v : ClientVolume
    v = (client_of number (cell.acted.clients number).history blocks).volumes volume

    up : AreLeft cell (sends_of s number volume server (freezing s.clock window server v)).events
    up = sent_left cell s number blocks kept there volume server homed s.clock window (freezing s.clock window server v) refl

    by : (strength : Strength) → AreLeft cell (sends_of s number volume server (over strength (freezing s.clock window server v))).events
    by Strong = up
    by Weak = up
    by Down = kept

-- what a letter says of those that wait is in the pool, and is so
pub record IsWaiting (cell : PlainCell) (sent : Sent) : Type 0 where
  pub message : ℕ
  pub there : cell.pool message ≡ Some (plain_letter sent)
  pub said : IsSaid cell sent

pub waits : (cell : PlainCell) (message : ℕ) (waiting : Waiting) (sent : Sent) → ArePooled cell waiting → sent_at message waiting ≡ Some sent → IsWaiting cell sent
waits cell message [] sent are e = cc
waits cell message (l ∷ waiting) sent are e = by (nat_eq message l.0) e (waits cell message waiting sent are.2)
  where
    by : (b : Bool) → cond b (Some l.1) (sent_at message waiting) ≡ Some sent → (sent_at message waiting ≡ Some sent → IsWaiting cell sent) → IsWaiting cell sent
    by true e rest = (let same : l.1 ≡ sent = cc in subst (IsWaiting cell) same (record { message = l.0; there = are.0; said = are.1 }))
    by false e rest = rest e

-- an answer may be posted that is kept
may_answer : (cell : PlainCell) (client server volume number : ℕ) (answer : Answer) → KeepsAnswer cell client server volume number answer → MayPost cell (plain_letter (AnswerSent server client volume number answer))
may_answer cell client server volume number Applied keeps = keeps
may_answer cell client server volume number (Conflict record_number why) keeps = keeps
may_answer cell client server volume number (Behind decided) keeps = tt
may_answer cell client server volume number (Old decided) keeps = tt

pub chunk_comes_left : (cell : MadeCell) (s : CellState) → IsKept cell → (volume server : ℕ) → cell.homes volume ≡ Some server → (client number : ℕ) (span : List Record) → IsWaiting cell.acted (ChunkSent client server volume number span)
    → (o : Result Ruling Refused) → ruling client number span (replica_of (λ x. (cell.acted.replicas x volume).history) volume server) ≡ o → AreLeft cell (ruled_in s client server volume number o).events
chunk_comes_left cell s kept volume server homed client number span is (Err why) e = kept
chunk_comes_left cell s kept volume server homed client number span is (Ok ruled) e =
    let r = ruled_left cell kept volume server homed client number span (inl (is.message, is.there)) is.said ruled e in
    let sent = AnswerSent server client volume number ruled.answer in
    are_left_both cell (entries_at server volume ruled.entries) (posting sent s.waiting) r.left
    (posting_left (grown_all cell (entries_at server volume ruled.entries)) sent s.waiting (kept_behind cell (entries_at server volume ruled.entries) r.left) (may_answer (grown_all cell (entries_at server volume ruled.entries)).acted client server volume number ruled.answer r.keeps) tt)

-- a chunk whose answer is taken may be settled
settles : (o : Option Cut) (course : Course) (number : ℕ) → course.cut ≡ o → settle_refusal (option_map (λ (cut : Cut). let frozen : Frozen = record { number = course.chunks; home = cut.home } in frozen) o) number ≡ None → (cut : Cut) × (course.cut ≡ Some cut) × (number ≡ course.chunks)
settles None course number is e = cc
settles (Some cut) course number is e = by (course.chunks == number) refl e
  where
    by : (b : Bool) → (course.chunks == number) ≡ b → (let r : Option SettleFault = cond b None (Some (settle_fault.WrongNumber course.chunks number)) in r) ≡ None → (cut : Cut) × (course.cut ≡ Some cut) × (number ≡ course.chunks)
    by true same e = (cut, is, sym (eqb-true course.chunks number same))
    by false same e = cc

told_of : (cell : PlainCell) (server client volume number : ℕ) (answer : Answer) (message : ℕ) → cell.pool message ≡ Some (plain_letter (AnswerSent server client volume number answer)) → IsToldAnswer cell client volume number answer
told_of cell server client volume number Applied message there = (server, inl (message, there))
told_of cell server client volume number (Conflict record_number why) message there = (server, inl (message, there))
told_of cell server client volume number (Behind decided) message there = tt
told_of cell server client volume number (Old decided) message there = tt

module _ (cell : MadeCell) (number blocks : ℕ) (kept : IsKept cell) (there : cell.sizes number ≡ Some blocks) (volume server : ℕ) (homed : cell.homes volume ≡ Some server) (origin chunk : ℕ) (answer : Answer) (is : IsWaiting cell.acted (AnswerSent origin number volume chunk answer)) where
  abbrev taker : ClientVolume
  taker = (client_of number (cell.acted.clients number).history blocks).volumes volume

  may_settle : (o : Option SettleFault) → settle_refusal taker.frozen chunk ≡ o → o ≡ None → MaySettle (done_on cell.acted number volume) chunk
  may_settle o e none =
      let deeds = done_on cell.acted number volume in
      let frozen : taker.frozen ≡ frozen_by (course_of deeds) = ap (λ (v : ClientVolume). v.frozen) (volumes_are number blocks (cell.acted.clients number).history volume) ∙ (shown deeds (lawful cell kept number volume)).frozen in
      let s = settles (course_of deeds).cut (course_of deeds) chunk refl (sym (ap (λ f. settle_refusal f chunk) frozen) ∙ e ∙ none) in
      record { cut = s.0; frozen = s.1; last = s.2 }

  took_left : (o : Option SettleFault) → settle_refusal taker.frozen chunk ≡ o → (took : Taking) → taking chunk answer taker ≡ Ok took → AreLeft cell (deeds_at number volume took.deeds)
  took_left None e took t = taking_left cell number blocks kept there volume server homed chunk (may_settle None e refl) taker answer took (told_of cell.acted origin number volume chunk answer is.message is.there) t
  took_left (Some why) e took t = (let no : taking chunk answer taker ≡ Err (settle_refused_as why) = ap (λ r. taken_unless r chunk answer taker) e in cc)

  pub answer_comes_left : (o : Result Taking Refused) → taking chunk answer taker ≡ o → AreLeft cell (taken_in number volume chunk answer o).events
  answer_comes_left (Err why) e = kept
  answer_comes_left (Ok took) e = took_left (settle_refusal taker.frozen chunk) refl took e
