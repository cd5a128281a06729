-- Replies name the letters in which chunks and answers wait, and letters say what is so.
use Rattle.std.proofs.Common.{◌≡◌, ◌≢◌, ℕ, zero, suc, ◌+◌, ◌≤◌, ◌<◌, Bool, true, false, ◌&&◌, cond, nat_eq, List, [], ◌∷◌, ◌++◌, map, Option, Some, None, Result, Ok, Err, refl, sym, ap, subst, ◌∙◌, inl, inr, arith}
use Rattle.std.specs.Prelude.{◌==◌}
use Rattle.std.specs.Cmp.Lexicographic.{pointwise, bytes_decides}
use Rattle.std.specs.Option.{unwrap_or}
use Rattle.std.proofs.lemmas.Bool.{cases_Bool, eqb-true, eq-eqb, ne_eqb, false≢true}
use Rattle.coda_fid.specs.declared.fid.Fid.{Fid}
use Rattle.coda_fid.specs.declared.op.Record.{Record}
use Rattle.coda_record.specs.declared.answer.Answer.{Answer}
use Rattle.coda_record.specs.declared.answer.Answer.TheVariants as answers
use Rattle.coda_net.specs.declared.letter.Letter.{Letter}
use Rattle.coda_net.specs.Pool.{is_sent}
use Rattle.coda_letters.specs.Sent.{Sent, ChunkSent, AnswerSent, BreakSent, client_of, server_of, is_to_server, is_lossy, bytes_of, letter_of, Waiting, sent_at, without, lost_by, but_oldest, with_sent, number_of}
use Rattle.coda_certify.specs.declared.verdict.Verdict.{Verdict}
use Rattle.coda_certify.specs.declared.verdict.Verdict.TheVariants as verdicts
use Rattle.coda_plain.specs.Cell.{ClientEntry, Did, Ruled, AnswerSent as PlainAnswer, Joins}
use Rattle.coda_plain.specs.Decisions.{ReplicaEntry, decisions_of}
use Rattle.coda_plain.specs.Deeds.{chunks_of, span_of}
use Rattle.coda_plain.specs.Histories.{In}
use Rattle.coda_plain.specs.Moves.{AtReplica, done_on}
use Rattle.coda_plain.specs.Sound.{IsDecided as IsDecidedNow}
use Rattle.coda_plain.proofs.Chunking.{numbered as chunks_are_numbered}
use Rattle.coda_plain.proofs.Soundness.{none_joins}
use Rattle.coda_script.specs.declared.line.Line.{Line}
use Rattle.coda_script.specs.declared.line.Line.TheVariants as line
use Rattle.coda_script.specs.declared.reply.Reply.{Reply}
use Rattle.coda_script.specs.declared.refusal.Refusal.{Refusal}
use Rattle.coda_script.specs.declared.refusal.Refusal.TheVariants as names
use Rattle.coda_script.specs.declared.reply.Arg.{Arg}
use Rattle.coda_script.specs.declared.reply.Reply.TheVariants as replies
use Rattle.coda_script.specs.declared.line.Strength.{Strength}
use Rattle.coda_script.specs.declared.line.Strength.TheVariants.{Down as LinkIsDown}
use Rattle.coda_cell.specs.State.{CellState, Event, LinkSet, Entered, Lost, Stale, after, after_all, at_client}
use Rattle.coda_cell.specs.Sending.{Freezing, freezing, Ruling, ruling, Taking, taking, deeds_at, entries_at, reply_answer}
use Rattle.coda_cell.specs.Made.{MadeCell, plain_answer}
use Rattle.coda_cell.specs.Messages.{over, posting, going_by, sends_of, ruled_in, reply_taken, taken_in}
use Rattle.coda_cell.specs.Refusing.{refusal}
use Rattle.coda_cell.specs.Runs.{IsKept as IsMadeKept, AreNumbered}
use Rattle.coda_cell.specs.Steps.{reply_to, Doing, Unless, first_missing, on_volume, on_holder, client_named, server_named, holder_named, BySend, ByRuling, ByTaking, Happens as HappensOne, valid_copies, Comes, link_down, Delivers, Loses, Does}
use Rattle.coda_cell.specs.Refused.{Refused}
use Rattle.coda_cell.specs.Refused as refused
use Rattle.coda_cell.proofs.CarriedLetters.{posting_after}
use Rattle.coda_cell.proofs.KeptLetters.{IsWaiting, waits}
use Rattle.coda_cell.proofs.Moving.{after_both}
use Rattle.coda_shelves.specs.Shelves.{found_on}
use Rattle.coda_shelves.specs.Cells.{Cell, shelves_of}
use Rattle.coda_shelves.specs.Kept.{IsDecided}
use Rattle.coda_shelves.specs.Lines.{Stop}
use Rattle.coda_shelves.specs.Running.{made_now, IsKept}
use Rattle.coda_shelves.proofs.Whole.{now_by}
use Rattle.coda_shelves.proofs.Wholly.{learned, whole_kept}
use Rattle.coda_runs.specs.Lettered.{answer_with, answer_told, WaitsUnder, WentAs, SendTells, CameFor, DeliveryTells, LossTells, TellsLetters, RepliesNameLetters, IsSo, LettersSayWhatIsSo}
use Rattle.coda_runs.proofs.Coming.{touches_letters, ComesTo, Acted, Aside, line_comes}
use Rattle.coda_runs.proofs.Meeting.{met, ShowsAs, waiting_as, Ends, WasDown, DidAll, LackedRoom, HadFault}
use Rattle.coda_runs.proofs.Unlettered.{is_acting, entries_stay, stopped_entries, task_entries, line_first}

-- ---- letters by their numbers

abbrev some : {A : Type 0} → A → Option A
some x = Some x

abbrev none : {A : Type 0} → Option A
none = None

pub at_first : (l : ℕ × Sent) (waiting : Waiting) (number : ℕ) → number ≡ l.0 → sent_at number (l ∷ waiting) ≡ Some l.1
at_first l waiting number e = rw (eq-eqb number l.0 e) refl

pub at_later : (l : ℕ × Sent) (waiting : Waiting) (number : ℕ) → (number ≡ l.0 → ⊥) → sent_at number (l ∷ waiting) ≡ sent_at number waiting
at_later l waiting number ne = rw (ne_eqb number l.0 ne) refl

abbrev AreUpTo : ℕ → Waiting → Type 0
AreUpTo last [] = Unit {0}
AreUpTo last (l ∷ waiting) = (l.0 ≤ last) × AreUpTo last waiting

up_to : (before last : ℕ) (waiting : Waiting) → AreNumbered before last waiting → AreUpTo last waiting
up_to before last [] numbered = tt
up_to before last (l ∷ waiting) numbered = (numbered.1, up_to l.0 last waiting numbered.2)

left_up_to : (last count : ℕ) (waiting : Waiting) → AreUpTo last waiting → AreUpTo last (but_oldest count waiting)
left_up_to last zero waiting all = all
left_up_to last (suc count) [] all = tt
left_up_to last (suc count) (l ∷ waiting) all = by (is_lossy l.1) (left_up_to last count waiting all.1) (left_up_to last (suc count) waiting all.1)
  where
    by : (b : Bool) → AreUpTo last (but_oldest count waiting) → AreUpTo last (but_oldest (suc count) waiting) → AreUpTo last (cond b (but_oldest count waiting) (l ∷ but_oldest (suc count) waiting))
    by true fewer rest = fewer
    by false fewer rest = (all.0, rest)

new_at : (last : ℕ) (waiting : Waiting) (sent : Sent) → AreUpTo last waiting → sent_at (last + 1) (waiting ++ (last + 1, sent) ∷ []) ≡ Some sent
new_at last [] sent all = at_first (last + 1, sent) [] (last + 1) refl
new_at last (l ∷ waiting) sent all = at_later l (waiting ++ (last + 1, sent) ∷ []) (last + 1) (λ same. omega (arith, same, all.0)) ∙ new_at last waiting sent all.1

posted_at : (last : ℕ) (waiting : Waiting) (sent : Sent) → AreNumbered 0 last waiting → WaitsUnder (with_sent (last + 1) sent waiting) (last + 1) sent
posted_at last waiting sent numbered = record { waits = sent; at = new_at last (but_oldest (lost_by sent waiting) waiting) sent (left_up_to last (lost_by sent waiting) waiting (up_to 0 last waiting numbered)); same = refl }

none_above : (before last : ℕ) (waiting : Waiting) → AreNumbered before last waiting → (number : ℕ) → number ≤ before → sent_at number waiting ≡ None
none_above before last [] numbered number low = refl
none_above before last (l ∷ waiting) numbered number low = (let above = numbered.0 in at_later l waiting number (λ same. omega (arith, same, above, low)) ∙ none_above l.0 last waiting numbered.2 number (omega (arith, above, low)))

lost_at : (before last : ℕ) (waiting : Waiting) (number : ℕ) → AreNumbered before last waiting → sent_at number (without number waiting) ≡ None
lost_at before last [] number numbered = refl
lost_at before last (l ∷ waiting) number numbered = elim (cases_Bool (nat_eq number l.0)) [
  | inl that ↦
      let low : number ≤ l.0 = omega (arith, eqb-true number l.0 that) in
      ap (λ b. sent_at number (cond b waiting (l ∷ without number waiting))) that ∙ none_above l.0 last waiting numbered.2 number low
  | inr other ↦
      ap (λ b. sent_at number (cond b waiting (l ∷ without number waiting))) other ∙ (ap (λ b. cond b (some l.1) (sent_at number (without number waiting))) other ∙ lost_at l.0 last waiting number numbered.2)
]

-- ---- the letter that says it already

both_true : (a b : Bool) → (a && b) ≡ true → (a ≡ true) × (b ≡ true)
both_true true b e = (refl, e)
both_true false b e = cc

-- what goes to a server may be lost
to_server_lossy : (sent : Sent) → is_to_server sent ≡ true → is_lossy sent ≡ true
to_server_lossy (ChunkSent client server volume number span) e = refl
to_server_lossy (AnswerSent server client volume number answer) e = refl
to_server_lossy (BreakSent server client volume fids) e = e

-- a letter to the server with these bytes
sent_so : (client server volume number : ℕ) (span : List Record) (l : Letter) → (let sent = ChunkSent client server volume number span in l.lossy ≡ true → is_sent client server (bytes_of sent) l ≡ true → l ≡ letter_of sent)
sent_so client server volume number span l lossy e =
    let bytes = bytes_of (ChunkSent client server volume number span) in
    let a = both_true l.to_server ((client == l.client) && ((server == l.server) && pointwise nat_eq l.bytes bytes)) e in
    let b = both_true (client == l.client) ((server == l.server) && pointwise nat_eq l.bytes bytes) a.1 in
    let c = both_true (server == l.server) (pointwise nat_eq l.bytes bytes) b.1 in
    let client_is = sym (eqb-true client l.client b.0) in
    let server_is = sym (eqb-true server l.server c.0) in
    let bytes_are = (bytes_decides l.bytes bytes).0 c.1 in
    (λ i. record { client = client_is i; server = server_is i; to_server = a.0 i; lossy = lossy i; bytes = bytes_are i })

is_some : (x y : ℕ) → (let o : Option ℕ = Some x in o ≡ Some y) → x ≡ y
is_some x y e = cc

found_at : (before last : ℕ) (waiting : Waiting) → AreNumbered before last waiting → (client server volume number : ℕ) (span : List Record) (message : ℕ)
    → (let sent = ChunkSent client server volume number span in number_of sent waiting ≡ Some message → (before < message) × WaitsUnder waiting message sent)
found_at before last [] numbered client server volume number span message e = cc
found_at before last (l ∷ waiting) numbered client server volume number span message e =
    let sent = ChunkSent client server volume number span in
    elim (cases_Bool (is_sent client server (bytes_of sent) (letter_of l.1))) [
      | inl that ↦
          let is = is_some message l.0 (sym e ∙ ap (λ b. cond b (Some l.0) (number_of sent waiting)) that) in
          let above = numbered.0 in
          let to_server = (both_true (is_to_server l.1) ((client == client_of l.1) && ((server == server_of l.1) && pointwise nat_eq (bytes_of l.1) (bytes_of sent))) that).0 in
          (omega (arith, above, is), record { waits = l.1; at = at_first l waiting message is; same = sent_so client server volume number span (letter_of l.1) (to_server_lossy l.1 to_server) that })
      | inr other ↦
          let rest = found_at l.0 last waiting numbered.2 client server volume number span message (sym (ap (λ b. cond b (Some l.0) (number_of sent waiting)) other) ∙ e) in
          let above = numbered.0 in
          let higher = rest.0 in
          (omega (arith, above, higher), record { waits = rest.1.waits; at = at_later l waiting message (λ same. omega (arith, same, higher)) ∙ rest.1.at; same = rest.1.same })
    ]

no_some : {A : Type 0} (o : Option A) (x : A) → o ≡ None → o ≡ Some x → ⊥
no_some o x none some = cc

-- a letter that waits has a number above those before it
pub above : (before last : ℕ) (waiting : Waiting) → AreNumbered before last waiting → (number : ℕ) (sent : Sent) → sent_at number waiting ≡ Some sent → before < number
above before last [] numbered number sent e = cc
above before last (l ∷ waiting) numbered number sent e = elim (nat_eq number l.0) as (λ b. nat_eq number l.0 ≡ b → cond b (Some l.1) (sent_at number waiting) ≡ Some sent → before < number) [
  | true ↦ λ that is. (let first = numbered.0 in let same = eqb-true number l.0 that in omega (arith, first, same))
  | false ↦ λ other is. (let first = numbered.0 in let more = above l.0 last waiting numbered.2 number sent is in omega (arith, first, more))
] refl e

-- the first letter has the least number
first_is_least : (before last : ℕ) (l : ℕ × Sent) (waiting : Waiting) → AreNumbered before last (l ∷ waiting) → (number : ℕ) (sent : Sent) → sent_at number (l ∷ waiting) ≡ Some sent → l.0 ≤ number
first_is_least before last l waiting numbered number sent e = elim (nat_eq number l.0) as (λ b. nat_eq number l.0 ≡ b → cond b (Some l.1) (sent_at number waiting) ≡ Some sent → l.0 ≤ number) [
  | true ↦ λ that is. (let same = eqb-true number l.0 that in omega (arith, same))
  | false ↦ λ other is. (let more = above l.0 last waiting numbered.2 number sent is in omega (arith, more))
] refl e

-- a chunk's letter is found by its own ends and bytes
itself : (client server volume number : ℕ) (span : List Record) (l : Letter) → (let sent = ChunkSent client server volume number span in l ≡ letter_of sent → is_sent client server (bytes_of sent) l ≡ true)
itself client server volume number span l e =
    let sent = ChunkSent client server volume number span in
    ap (is_sent client server (bytes_of sent)) e ∙ rw (eq-eqb client client refl, eq-eqb server server refl, (bytes_decides (bytes_of sent) (bytes_of sent)).1 refl) refl

-- a letter that says the chunk is found, and its number is at most that of any letter which says it
pub record IsFound (waiting : Waiting) (sent : Sent) (most : ℕ) : Type 0 where
  pub message : ℕ
  pub is : number_of sent waiting ≡ Some message
  pub least : message ≤ most

finds : (before last : ℕ) (waiting : Waiting) → AreNumbered before last waiting → (client server volume number : ℕ) (span : List Record) (most : ℕ)
    → (let sent = ChunkSent client server volume number span in WaitsUnder waiting most sent → IsFound waiting sent most)
finds before last [] numbered client server volume number span most w = absurd (no_some (none {A = Sent}) w.waits refl w.at)
finds before last (l ∷ waiting) numbered client server volume number span most w =
    let sent = ChunkSent client server volume number span in
    elim (cases_Bool (is_sent client server (bytes_of sent) (letter_of l.1))) [
      | inl that ↦ record {
        message = l.0;
        is = ap (λ b. cond b (Some l.0) (number_of sent waiting)) that;
        least = first_is_least before last l waiting numbered most w.waits w.at;
      }
      | inr other ↦
          let later : most ≡ l.0 → ⊥ = λ same. (
          let both : some l.1 ≡ some w.waits = sym (at_first l waiting most same) ∙ w.at in
          let is : l.1 ≡ w.waits = cc in
          false≢true (sym other ∙ itself client server volume number span (letter_of l.1) (ap letter_of is ∙ w.same))
          ) in
          let rest = finds l.0 last waiting numbered.2 client server volume number span most (record { waits = w.waits; at = sym (at_later l waiting most later) ∙ w.at; same = w.same }) in
          record { message = rest.message; is = ap (λ b. cond b (Some l.0) (number_of sent waiting)) other ∙ rest.is; least = rest.least }
    ]

-- ---- a letter that is lost

others_wait : (waiting : Waiting) (message other : ℕ) → other ≢ message → sent_at other (without message waiting) ≡ sent_at other waiting
others_wait [] message other ne = refl
others_wait (l ∷ waiting) message other ne = elim (cases_Bool (nat_eq message l.0)) [
  | inl that ↦ ap (λ b. sent_at other (cond b waiting (l ∷ without message waiting))) that ∙ sym (at_later l waiting other (λ same. ne (same ∙ sym (eqb-true message l.0 that))))
  | inr not ↦ ap (λ b. sent_at other (cond b waiting (l ∷ without message waiting))) not ∙ ap (λ o. cond (nat_eq other l.0) (some l.1) o) (others_wait waiting message other ne)
]

-- ---- what happens before a letter is posted

abbrev IsAsBefore : CellState → CellState → Type 0
IsAsBefore s t = (t.waiting ≡ s.waiting) × (t.posted ≡ s.posted)

deeds_leave : (s : CellState) (client : ℕ) (entries : List ClientEntry) → IsAsBefore s (after_all s (map (at_client client) entries))
deeds_leave s client [] = (refl, refl)
deeds_leave s client (entry ∷ entries) = deeds_leave (after s (at_client client entry)) client entries

entries_leave : (s : CellState) (server volume : ℕ) (entries : List ReplicaEntry) → IsAsBefore s (after_all s (entries_at server volume entries))
entries_leave s server volume [] = (refl, refl)
entries_leave s server volume (entry ∷ entries) = entries_leave (after s (Entered (AtReplica server volume entry))) server volume entries

-- what waits once a letter was posted
posting_leaves : (s t : CellState) (sent : Sent) → AreNumbered 0 s.posted s.waiting → IsAsBefore s t → (after_all t (posting sent s.waiting)).waiting ≡ with_sent (s.posted + 1) sent s.waiting
posting_leaves s t sent numbered even =
    ap (λ w. (after_all t (posting sent w)).waiting) (sym even.0)
    ∙ (ap (λ (c : CellState). c.waiting) (posting_after t sent 0 s.posted (subst (AreNumbered 0 s.posted) (sym even.0) numbered)) ∙ (λ i. with_sent (even.1 i + 1) sent (even.0 i)))

posted_stay : (s : CellState) (first : List Event) (sent : Sent) → AreNumbered 0 s.posted s.waiting → IsAsBefore s (after_all s first) → (after_all s (first ++ posting sent s.waiting)).waiting ≡ with_sent (s.posted + 1) sent s.waiting
posted_stay s first sent numbered even = ap (λ (c : CellState). c.waiting) (after_both s first (posting sent s.waiting)) ∙ posting_leaves s (after_all s first) sent numbered even

posted_behind : (s : CellState) (first : List Event) (sent : Sent) → IsAsBefore s (after_all s first) → AreNumbered 0 s.posted s.waiting → WaitsUnder (after_all s (first ++ posting sent s.waiting)).waiting (s.posted + 1) sent
posted_behind s first sent even numbered = subst (λ w. WaitsUnder w (s.posted + 1) sent) (sym (posted_stay s first sent numbered even)) (posted_at s.posted s.waiting sent numbered)

none_stay : (s : CellState) (first : List Event) → IsAsBefore s (after_all s first) → (after_all s (first ++ [])).waiting ≡ s.waiting
none_stay s first even = ap (λ (c : CellState). c.waiting) (after_both s first []) ∙ even.0

-- ---- lines

-- what the reply to a delivered chunk tells is the answer
told_back : (answer : Answer) → answer_told (reply_answer answer) ≡ answer
told_back answers.Applied = refl
told_back (answers.Conflict refused why) = refl
told_back (answers.Behind last) = refl
told_back (answers.Old last) = refl

module _ (s : CellState) (numbered : AreNumbered 0 s.posted s.waiting) where
  abbrev behind_of : List Event → Waiting
  behind_of events = (after_all s events).waiting

  nothing_stays : (events : List Event) → events ≡ [] → behind_of events ≡ s.waiting
  nothing_stays events none = ap behind_of none

  went : (first : List Event) (client server volume number : ℕ) (span : List Record) (o : Option ℕ) → (let sent = ChunkSent client server volume number span in IsAsBefore s (after_all s first) → number_of sent s.waiting ≡ o
      → WentAs client volume server number (going_by o sent s).message s.waiting (behind_of (first ++ (going_by o sent s).events)))
  went first client server volume number span (Some message) even is =
      let sent = ChunkSent client server volume number span in record {
        span = span;
        goes = subst (λ w. WaitsUnder w message sent) (sym (none_stay s first even)) (found_at 0 s.posted s.waiting numbered client server volume number span message is).1;
        once = λ before w. (
            let found = finds 0 s.posted s.waiting numbered client server volume number span before w in
            let same = is_some message found.message (sym is ∙ found.is) in
            let least = found.least in
            (none_stay s first even, omega (arith, same, least))
            );
        stays = λ none. absurd (none message (found_at 0 s.posted s.waiting numbered client server volume number span message is).1);
      }
  went first client server volume number span None even is = record {
    span = span;
    goes = posted_behind s first (ChunkSent client server volume number span) even numbered;
    once = λ before w. (
        let found = finds 0 s.posted s.waiting numbered client server volume number span before w in
        absurd (no_some (number_of (ChunkSent client server volume number span) s.waiting) found.message is found.is)
        );
    stays = λ none. posted_stay s first (ChunkSent client server volume number span) numbered even;
  }

  sends_tell : (client volume server : ℕ) (o : Result Freezing Refused) → SendTells client volume server (reply_to (sends_of s client volume server o).said) s.waiting (behind_of (sends_of s client volume server o).events)
  sends_tell client volume server (Err why) = refl
  sends_tell client volume server (Ok f) =
      let sent = ChunkSent client server volume f.number f.span in
      went (deeds_at client volume f.deeds) client server volume f.number f.span (number_of sent s.waiting) (deeds_leave s client (map (Did volume) f.deeds)) refl

  send_tells : (client volume server window : ℕ) (o : Option Refused) (reply : Reply) (events : List Event) → Unless o (BySend s client volume server window) reply events → SendTells client volume server reply s.waiting (behind_of events)
  send_tells client volume server window (Some why) reply events does = subst (λ r. SendTells client volume server r s.waiting (behind_of events)) (sym does.0) (nothing_stays events does.1)
  send_tells client volume server window None reply events did =
      let frozen = over (s.links client server) (freezing s.clock window server (did.client.volumes volume)) in
      subst (λ r. SendTells client volume server r s.waiting (behind_of events)) (sym did.answered)
      (subst (λ es. SendTells client volume server (reply_to (sends_of s client volume server frozen).said) s.waiting (behind_of es)) (sym did.happened) (sends_tell client volume server frozen))

  rulings_tell : (client server volume number message : ℕ) (span : List Record) (o : Result Ruling Refused) → sent_at message s.waiting ≡ Some (ChunkSent client server volume number span)
      → DeliveryTells message (reply_to (ruled_in s client server volume number o).said) s.waiting (behind_of (ruled_in s client server volume number o).events)
  rulings_tell client server volume number message span (Err why) came = refl
  rulings_tell client server volume number message span (Ok ruled) came =
      let sent = AnswerSent server client volume number ruled.answer in
      let even = entries_leave s server volume ruled.entries in
      subst (CameFor s.waiting (behind_of (entries_at server volume ruled.entries ++ posting sent s.waiting)) message number (s.posted + 1)) (sym (told_back ruled.answer))
      (record {
        client = client;
        server = server;
        volume = volume;
        span = span;
        came = came;
        goes = posted_behind s (entries_at server volume ruled.entries) sent even numbered;
        stays = posted_stay s (entries_at server volume ruled.entries) sent numbered even;
      })

  brought : (client server volume number message : ℕ) (answer : Answer) (new : Waiting) → sent_at message s.waiting ≡ Some (AnswerSent server client volume number answer) → new ≡ s.waiting → DeliveryTells message (reply_taken number answer) s.waiting new
  brought client server volume number message answers.Applied new came stays = record { client = client; server = server; volume = volume; came = came; stays = stays }
  brought client server volume number message (answers.Conflict refused why) new came stays = record { client = client; server = server; volume = volume; came = came; stays = stays }
  brought client server volume number message (answers.Behind last) new came stays = record { client = client; server = server; volume = volume; came = came; stays = stays }
  brought client server volume number message (answers.Old last) new came stays = record { client = client; server = server; volume = volume; came = came; stays = stays }

  takings_tell : (client server volume number message : ℕ) (answer : Answer) (o : Result Taking Refused) → sent_at message s.waiting ≡ Some (AnswerSent server client volume number answer)
      → DeliveryTells message (reply_to (taken_in client volume number answer o).said) s.waiting (behind_of (taken_in client volume number answer o).events)
  takings_tell client server volume number message answer (Err why) came = refl
  takings_tell client server volume number message answer (Ok took) came =
      brought client server volume number message answer (behind_of (deeds_at client volume took.deeds)) came (deeds_leave s client (map (Did volume) took.deeds)).0

  refused_tells : (message : ℕ) (why : Refused) (reply : Reply) (events : List Event) → (reply ≡ refusal why) × (events ≡ []) → DeliveryTells message reply s.waiting (behind_of events)
  refused_tells message why reply events does = subst (λ r. DeliveryTells message r s.waiting (behind_of events)) (sym does.0) (nothing_stays events does.1)

  chunk_tells : (client server volume number message : ℕ) (span : List Record) (o : Option Refused) (reply : Reply) (events : List Event) → sent_at message s.waiting ≡ Some (ChunkSent client server volume number span)
      → Unless o (ByRuling s client server volume number span) reply events → DeliveryTells message reply s.waiting (behind_of events)
  chunk_tells client server volume number message span (Some why) reply events came does = refused_tells message why reply events does
  chunk_tells client server volume number message span None reply events came did =
      let ruled = ruling client number span did.replica in
      subst (λ r. DeliveryTells message r s.waiting (behind_of events)) (sym did.answered)
      (subst (λ es. DeliveryTells message (reply_to (ruled_in s client server volume number ruled).said) s.waiting (behind_of es)) (sym did.happened) (rulings_tell client server volume number message span ruled came))

  answer_tells : (client server volume number message : ℕ) (answer : Answer) (o : Option Refused) (reply : Reply) (events : List Event) → sent_at message s.waiting ≡ Some (AnswerSent server client volume number answer)
      → Unless o (ByTaking s client volume number answer) reply events → DeliveryTells message reply s.waiting (behind_of events)
  answer_tells client server volume number message answer (Some why) reply events came does = refused_tells message why reply events does
  answer_tells client server volume number message answer None reply events came did =
      let took = taking number answer (did.client.volumes volume) in
      subst (λ r. DeliveryTells message r s.waiting (behind_of events)) (sym did.answered)
      (subst (λ es. DeliveryTells message (reply_to (taken_in client volume number answer took).said) s.waiting (behind_of es)) (sym did.happened) (takings_tell client server volume number message answer took came))

  break_tells : (server client volume message copies : ℕ) (fids : List Fid) (o : Option Refused) (reply : Reply) (events : List Event) → sent_at message s.waiting ≡ Some (BreakSent server client volume fids)
      → Unless o (HappensOne (replies.Broken copies) (Stale client fids)) reply events → DeliveryTells message reply s.waiting (behind_of events)
  break_tells server client volume message copies fids (Some why) reply events came does = refused_tells message why reply events does
  break_tells server client volume message copies fids None reply events came did =
      subst (λ r. DeliveryTells message r s.waiting (behind_of events)) (sym did.0)
      (record { server = server; client = client; volume = volume; fids = fids; came = came; stays = ap behind_of did.1 })

  comes_tell : (message : ℕ) (sent : Sent) (reply : Reply) (events : List Event) → sent_at message s.waiting ≡ Some sent → Comes s sent reply events → DeliveryTells message reply s.waiting (behind_of events)
  comes_tell message (ChunkSent client server volume number span) reply events came does = chunk_tells client server volume number message span (first_missing (on_holder s client volume server)) reply events came does
  comes_tell message (AnswerSent server client volume number answer) reply events came does = answer_tells client server volume number message answer (first_missing (on_holder s client volume server)) reply events came does
  comes_tell message (BreakSent server client volume fids) reply events came does = break_tells server client volume message (valid_copies s client fids) fids (first_missing (on_holder s client volume server)) reply events came does

  linked_tell : (message : ℕ) (sent : Sent) (o : Option Refused) (reply : Reply) (events : List Event) → sent_at message s.waiting ≡ Some sent → Unless o (Comes s sent) reply events → DeliveryTells message reply s.waiting (behind_of events)
  linked_tell message sent (Some why) reply events came does = refused_tells message why reply events does
  linked_tell message sent None reply events came does = comes_tell message sent reply events came does

  delivery_tells : (message : ℕ) (o : Option Sent) (reply : Reply) (events : List Event) → sent_at message s.waiting ≡ o → Delivers s message o reply events → DeliveryTells message reply s.waiting (behind_of events)
  delivery_tells message None reply events is does = refused_tells message (refused.NoMessage message) reply events does
  delivery_tells message (Some sent) reply events is does = linked_tell message sent (link_down (s.links (client_of sent) (server_of sent))) reply events is does

  loss_tells : (message : ℕ) (o : Option Sent) (reply : Reply) (events : List Event) → sent_at message s.waiting ≡ o → Loses message o reply events → LossTells message reply s.waiting (behind_of events)
  loss_tells message None reply events is does = subst (λ r. LossTells message r s.waiting (behind_of events)) (sym does.0) (nothing_stays events does.1)
  loss_tells message (Some sent) reply events is does =
      subst (λ r. LossTells message r s.waiting (behind_of events)) (sym does.0)
      (subst (λ es. LossTells message (replies.Lost message) s.waiting (behind_of es)) (sym does.1) (subst (λ w. LossTells message (replies.Lost message) s.waiting w) (by (is_lossy sent))
      (refl, record { sent = sent; waited = is; gone = lost_at 0 s.posted s.waiting message numbered; others = others_wait s.waiting message })))
    where
      by : (b : Bool) → without message s.waiting ≡ behind_of (Lost message ∷ cond b [] (LinkSet (client_of sent) (server_of sent) LinkIsDown ∷ []))
      by true = refl
      by false = refl

unless_stays : (s : CellState) (o : Option Refused) (own : Doing) (reply : Reply) (events : List Event) → (own reply events → (after_all s events).waiting ≡ s.waiting) → Unless o own reply events → (after_all s events).waiting ≡ s.waiting
unless_stays s (Some why) own reply events rest does = ap (λ es. (after_all s es).waiting) does.1
unless_stays s None own reply events rest does = rest does

tells : (s : CellState) (said : Line) (reply : Reply) (events : List Event) → AreNumbered 0 s.posted s.waiting → is_acting said ≡ true → Does s said reply events → TellsLetters said reply s.waiting (after_all s events).waiting
tells s (line.ShowState client volume) reply events numbered acts does = unless_stays s (first_missing (on_volume s client volume)) _ reply events (λ did. ap (λ es. (after_all s es).waiting) did.happened) does
tells s (line.Send client volume server window) reply events numbered acts does =
    send_tells s numbered client volume server (unwrap_or window 600) (first_missing (on_holder s client volume server)) reply events does
tells s (line.Deliver message) reply events numbered acts does = delivery_tells s numbered message (sent_at message s.waiting) reply events refl does
tells s (line.Lose message) reply events numbered acts does = loss_tells s numbered message (sent_at message s.waiting) reply events refl does
tells s (line.Link client server strength) reply events numbered acts does =
    unless_stays s (first_missing (client_named s client ∷ server_named s server ∷ [])) _ reply events (λ did. ap (λ es. (after_all s es).waiting) did.1) does
tells s (line.Tick seconds) reply events numbered acts does = ap (λ es. (after_all s es).waiting) does.1
tells s (line.Task t) reply events numbered acts does = entries_stay s events (task_entries s reply events t does)
tells s (line.ShowVolume server volume) reply events numbered acts does = unless_stays s (first_missing (holder_named s server volume ∷ [])) _ reply events (λ did. ap (λ es. (after_all s es).waiting) did.1) does
tells s (line.ShowLog client volume) reply events numbered acts does = unless_stays s (first_missing (on_volume s client volume)) _ reply events (λ did. ap (λ es. (after_all s es).waiting) did.1) does
tells s (line.Volume volume servers area) reply events numbered acts does = cc
tells s (line.Client client blocks area) reply events numbered acts does = cc
tells s _ reply events numbered acts does = absurd does

-- ---- a cell on disks

-- a line that isn't one of the three, or whose reply is a refusal, and that leaves the letters as they are
untouched : (said : Line) (reply : Reply) (old new : Waiting) → touches_letters said ≡ false → new ≡ old → TellsLetters said reply old new
untouched (line.Send client volume server window) reply old new isnt same = absurd (false≢true (sym isnt))
untouched (line.Deliver message) reply old new isnt same = absurd (false≢true (sym isnt))
untouched (line.Lose message) reply old new isnt same = absurd (false≢true (sym isnt))
untouched _ reply old new isnt same = same

refused_so : (said : Line) (name : Refusal) (args : List Arg) (old new : Waiting) → new ≡ old → TellsLetters said (replies.Refused name args) old new
refused_so (line.Send client volume server window) name args old new same = same
refused_so (line.Deliver message) name args old new same = same
refused_so (line.Lose message) name args old new same = same
refused_so _ name args old new same = same

module _ (old new : Cell) (numbered : AreNumbered 0 old.posted old.waiting) (said : Line) where
  abbrev Tells : Reply → Type 0
  Tells reply = TellsLetters said reply old.waiting new.waiting

  -- a line that is stopped at an entry posted nothing before it
  stopped : is_acting said ≡ true → (links : ℕ → ℕ → Strength) (own : Reply) (events : List Event) (stop : Stop events) → Does (met old links) said own events
      → ShowsAs (after_all (met old links) stop.done) new → new.waiting ≡ old.waiting
  stopped acts links own events stop does shows =
      sym (waiting_as (after_all (met old links) stop.done) new shows) ∙ entries_stay (met old links) stop.done (stopped_entries events (line_first (met old links) own events said acts does) stop)

  refusal_told : (reply : Reply) (name : Refusal) → reply ≡ replies.Refused name [] → new.waiting ≡ old.waiting → Tells reply
  refusal_told reply name is same = subst Tells (sym is) (refused_so said name [] old.waiting new.waiting same)

  ended : is_acting said ≡ true → (reply : Reply) → Ends old said reply new → Tells reply
  ended acts reply (WasDown down is same) = refusal_told reply names.Down is (ap (λ (c : Cell). c.waiting) same)
  ended acts reply (DidAll at events does shows) =
      subst (TellsLetters said reply old.waiting) (waiting_as (after_all (met old at.links) events) new shows) (tells (met old at.links) said reply events numbered acts does)
  ended acts reply (LackedRoom at own events stop does shows is lacks same) = refusal_told reply names.JournalFull is (stopped acts at.links own events stop does shows)
  ended acts reply (HadFault at own events stop does shows is same) = refusal_told reply names.DiskFault is (stopped acts at.links own events stop does shows)

  came : (reply : Reply) → ComesTo old said reply new → Tells reply
  came reply (Acted acts ends) = ended acts reply ends
  came reply (Aside none whole leaves) = untouched said reply old.waiting new.waiting none leaves

pub replies_name_letters : RepliesNameLetters
replies_name_letters cell kept said reply answered new happens =
    came cell new (kept.letters none_joins).letters.numbered said reply (line_comes cell reply answered new said happens)

-- ---- what letters say

verdict_is : (verdict : Verdict) → plain_answer (answer_with verdict) ≡ Ruled verdict
verdict_is verdicts.Applied = refl
verdict_is (verdicts.Conflict refused why) = refl

-- of a cell as it would be found
abbrev pub IsSoIn : MadeCell → Sent → Type 0
IsSoIn cell (ChunkSent client server volume number span) = In (record { number = number; home = server; span = span }) (chunks_of (done_on cell.acted client volume))
IsSoIn cell (AnswerSent server client volume number answer) = (verdict : Verdict) → answer ≡ answer_with verdict → IsDecidedNow (λ s w. (cell.acted.replicas s w).history) volume client number verdict
IsSoIn cell (BreakSent server client volume fids) = ⊥

so_in : (cell : MadeCell) (sent : Sent) → IsMadeKept cell → IsWaiting cell.acted sent → IsSoIn cell sent
so_in cell (ChunkSent client server volume number span) kept there =
    let agree = kept.sound.agree none_joins in
    let deeds = done_on cell.acted client volume in
    let froze = agree.sent there.message client server volume number there.there in
    let own : span_of deeds number ≡ froze.0 = (chunks_are_numbered deeds (agree.lawful client volume)).own (record { number = number; home = server; span = froze.0 }) froze.1 in
    subst (λ recs. In (record { number = number; home = server; span = recs }) (chunks_of deeds)) (sym (there.said ∙ own)) froze.1
so_in cell (AnswerSent server client volume number answer) kept there = λ verdict is.
    let agree = kept.sound.agree none_joins in
    agree.answered there.message server client volume number verdict (there.there ∙ ap (λ a. some (PlainAnswer server client volume number a)) (ap plain_answer is ∙ verdict_is verdict))
so_in cell (BreakSent server client volume fids) kept there = there.said

-- a letter that waits in a cell that is kept, whichever of the entries join
pub waits_so : (cell : Cell) (kept : IsKept cell) (joins : Joins) (message : ℕ) (sent : Sent) → sent_at message cell.waiting ≡ Some sent → IsSoIn (made_now cell joins kept.pool (learned cell kept joins)) sent
waits_so cell kept joins message sent is =
    let found = made_now cell joins kept.pool (learned cell kept joins) in
    let found_kept = whole_kept cell kept joins in
    so_in found sent found_kept (waits found.acted message cell.waiting sent found_kept.letters.pooled is)

found_so : (cell : Cell) (kept : IsKept cell) (joins : Joins) (sent : Sent) → IsSoIn (made_now cell joins kept.pool (learned cell kept joins)) sent → IsSo (found_on (shelves_of cell) joins) sent
found_so cell kept joins (ChunkSent client server volume number span) so = so
found_so cell kept joins (AnswerSent server client volume number answer) so = λ verdict is.
    let d = so verdict is in
    now_by cell joins kept.pool (learned cell kept joins) d.server volume (λ l. In d.by (decisions_of volume l) → IsDecided (found_on (shelves_of cell) joins) volume client number verdict) (λ i. absurd i)
    (λ at stands home named i. record { row = at.row; server = d.server; by = d.by; there = (named, i); client_is = d.client_is; number_is = d.number_is; verdict_is = d.verdict_is }) d.there
found_so cell kept joins (BreakSent server client volume fids) so = so

pub letters_say_what_is_so : LettersSayWhatIsSo
letters_say_what_is_so cell kept message sent is joins = found_so cell kept joins sent (waits_so cell kept joins message sent is)
