-- What the calls of a network come to, in words of what its letters say.
use Rattle.std.proofs.Common.{◌≡◌, ℕ, ◌+◌, ◌≤◌, Bool, true, false, cond, List, [], length, append-nil, Option, Some, None, option_map, Result, Ok, Err, IfOk, refl, sym, ap, ◌∙◌, subst, inr, arith}
use Rattle.coda_fid.specs.declared.fid.Fid.{Fid}
use Rattle.coda_fid.specs.declared.op.Record.{Record}
use Rattle.coda_cancel.specs.Cancel.{fold}
use Rattle.coda_cancel.specs.Weights.{total_weight}
use Rattle.coda_record.specs.declared.answer.Answer.{Answer}
use Rattle.coda_record.specs.Spelling.{HasSpelling, Spells}
use Rattle.coda_record.proofs.Offsets.{agreeing_is_exact}
use Rattle.coda_wire.specs.declared.fault.WireFault.{WireFault}
use Rattle.coda_wire.specs.declared.message.Message.{Message}
use Rattle.coda_wire.specs.declared.message.Message.TheVariants.{Chunk, Verdict, Break}
use Rattle.coda_wire.specs.Outcome.{Reads}
use Rattle.coda_wire.specs.Table.{message}
use Rattle.coda_wire.proofs.Tabled.{message_agrees}
use Rattle.coda_net.specs.declared.fault.NetFault.{NetFault}
use Rattle.coda_net.specs.declared.fault.NetFault.TheVariants as net_faults
use Rattle.coda_net.specs.declared.letter.Letter.{Letter}
use Rattle.coda_net.specs.Pool.{Pool, letter_at, is_down, link_of, not_delivered, deliver_refusal, posted_to, found, without as without_letter}
use Rattle.coda_letters.specs.Sent.{Sent, ChunkSent, AnswerSent, BreakSent, message_of, CanBeSent, client_of, server_of, bytes_of, letter_of, Waiting, AreLetters, sent_at, number_of}
use Rattle.coda_letters.specs.Calls.{IsPosted, IsSentAs, IsSent, DeliversTo, Delivers, LosesTo, Loses}
use Rattle.coda_letters.specs.Laws.{BytesTellMessages}
use Rattle.coda_letters.specs.declared.fault.LetterFault.{LetterFault}
use Rattle.coda_letters.specs.declared.fault.LetterFault.TheVariants as faults
use Rattle.coda_letters.proofs.Spelled.{chunks_are_light}
use Rattle.coda_letters.proofs.Waiting.{at_number, said_at, letters_posted, letters_lost}

pub bytes_tell_messages : BytesTellMessages
bytes_tell_messages one other can could same =
    ((agreeing_is_exact message message_agrees).apart (bytes_of one) (bytes_of other) [] (message_of one) (message_of other) (refl, can) (refl, could) (append-nil (bytes_of one) ∙ same)).0

-- ---- sending

-- the bytes that were written of a chunk may wait
pub chunk_fits : (client server volume number : ℕ) (recs : List Record) (bytes : List ℕ) → Spells message bytes (Chunk client server volume number recs) → total_weight recs ≤ 16777216 → length bytes ≤ 67108864
chunk_fits client server volume number recs bytes spelled light =
    let most = chunks_are_light client server volume number recs in
    let same = ap length spelled.0 in
    omega (arith, most, same, light)

module _ (waiting : Waiting) (old new : Pool) (sent : Sent) (letter : Letter) (are : AreLetters waiting old) (can : CanBeSent sent) (is : letter ≡ letter_of sent) where
  pub posted_so : (result : Result ℕ NetFault) → IfOk result (λ n. (n ≡ old.posted + 1) × (new.posted ≡ n)) → IfOk result (λ n. new.letters ≡ posted_to old.letters n letter) → IfOk result (λ n. IsPosted waiting sent old n new)
  posted_so (Ok n) number letters = record { next = number.0; posted = number.1; left = letters_posted waiting old new n sent letter are can is letters }
  posted_so (Err why) number letters = tt

  pub sent_so : (result : Result ℕ NetFault) → number_of sent waiting ≡ None → IfOk result (λ n. (n ≡ old.posted + 1) × (new.posted ≡ n)) → IfOk result (λ n. new.letters ≡ posted_to old.letters n letter) → IfOk result (λ n. IsSent waiting sent old n new)
  sent_so result none number letters = subst (λ (o : Option ℕ). IfOk result (λ n. IsSentAs o waiting sent old n new)) (sym none) (posted_so result number letters)

-- a letter that says it already
pub sent_before : (waiting : Waiting) (net : Pool) (sent : Sent) (number : ℕ) → number_of sent waiting ≡ Some number → IsSent waiting sent net number net
sent_before waiting net sent number found = subst (λ (o : Option ℕ). IsSentAs o waiting sent net number net) (sym found) (refl, refl)

-- what is found by the bytes that were written
pub found_so : (waiting : Waiting) (net : Pool) (client server volume number : ℕ) (span recs : List Record) (bytes : List ℕ) → AreLetters waiting net → recs ≡ fold span → Spells message bytes (Chunk client server volume number recs)
    → found net.letters client server bytes ≡ number_of (ChunkSent client server volume number span) waiting
found_so waiting net client server volume number span recs bytes are folded spelled =
    λ i. found (are.letters i) client server ((spelled.0 ∙ ap (λ rs. (message.piece (Chunk client server volume number rs)).bytes) folded) i)

-- the letter of a chunk, by the bytes that were written
pub chunk_letter : (client server volume number : ℕ) (span recs : List Record) (bytes : List ℕ) → recs ≡ fold span → Spells message bytes (Chunk client server volume number recs)
    → (let written : Letter = record { client = client; server = server; to_server = true; lossy = true; bytes = bytes } in written ≡ letter_of (ChunkSent client server volume number span))
chunk_letter client server volume number span recs bytes folded spelled =
    ap (λ bs. let written : Letter = record { client = client; server = server; to_server = true; lossy = true; bytes = bs } in written) (spelled.0 ∙ ap (λ rs. (message.piece (Chunk client server volume number rs)).bytes) folded)

pub chunk_can : (client server volume number : ℕ) (span recs : List Record) → recs ≡ fold span → HasSpelling message (Chunk client server volume number recs) → CanBeSent (ChunkSent client server volume number span)
chunk_can client server volume number span recs folded can = subst (λ rs. HasSpelling message (Chunk client server volume number rs)) folded can

pub answer_letter : (server client volume number : ℕ) (answer : Answer) (bytes : List ℕ) → Spells message bytes (Verdict server client volume number answer)
    → (let written : Letter = record { client = client; server = server; to_server = false; lossy = true; bytes = bytes } in written ≡ letter_of (AnswerSent server client volume number answer))
answer_letter server client volume number answer bytes spelled = ap (λ bs. let written : Letter = record { client = client; server = server; to_server = false; lossy = true; bytes = bs } in written) spelled.0

pub break_letter : (server client volume : ℕ) (fids : List Fid) (bytes : List ℕ) → Spells message bytes (Break server client volume fids)
    → (let written : Letter = record { client = client; server = server; to_server = false; lossy = false; bytes = bytes } in written ≡ letter_of (BreakSent server client volume fids))
break_letter server client volume fids bytes spelled = ap (λ bs. let written : Letter = record { client = client; server = server; to_server = false; lossy = false; bytes = bs } in written) spelled.0

-- ---- delivering

-- why a letter isn't delivered, as it is answered
abbrev pub fault_of : NetFault → LetterFault
fault_of (net_faults.NoMessage number) = faults.NoMessage number
fault_of net_faults.LinkDown = faults.LinkDown
fault_of (net_faults.NotShorter n) = faults.Memory
fault_of net_faults.Memory = faults.Memory

module _ (waiting : Waiting) (net : Pool) (number : ℕ) (are : AreLetters waiting net) where
  at : letter_at net.letters number ≡ option_map letter_of (sent_at number waiting)
  at = ap (λ ls. letter_at ls number) are.letters ∙ at_number number waiting

  pub delivers_refused : (why : NetFault) → deliver_refusal net number ≡ Some why → Delivers waiting net number (Err (fault_of why))
  delivers_refused why refused = inr (by (sent_at number waiting) (ap (not_delivered net number) (sym at) ∙ refused))
    where
      down : (sent : Sent) (b : Bool) → (let o : Option NetFault = cond b (Some net_faults.LinkDown) None in o) ≡ Some why
          → (let r : Result Message LetterFault = Err (fault_of why) in let s : Result Message LetterFault = cond b (Err faults.LinkDown) (Ok (message_of sent)) in r ≡ s)
      down sent true e = (let same : net_faults.LinkDown ≡ why = cc in ap (λ w. Err (fault_of w)) (sym same))
      down sent false e = cc

      by : (o : Option Sent) → not_delivered net number (option_map letter_of o) ≡ Some why → DeliversTo net number o (Err (fault_of why))
      by None e = (let same : net_faults.NoMessage number ≡ why = cc in ap (λ w. Err (fault_of w)) (sym same))
      by (Some sent) e = down sent (is_down (link_of net (client_of sent) (server_of sent))) e

  pub delivers_none : (missing : ℕ) → deliver_refusal net number ≡ Some (net_faults.NoMessage missing) → Delivers waiting net number (Err (faults.NoMessage number))
  delivers_none missing refused = inr (by (sent_at number waiting) (ap (not_delivered net number) (sym at) ∙ refused))
    where
      down : (sent : Sent) (b : Bool) → (let o : Option NetFault = cond b (Some net_faults.LinkDown) None in o) ≡ Some (net_faults.NoMessage missing)
          → (let r : Result Message LetterFault = Err (faults.NoMessage number) in let s : Result Message LetterFault = cond b (Err faults.LinkDown) (Ok (message_of sent)) in r ≡ s)
      down sent true e = cc
      down sent false e = cc

      by : (o : Option Sent) → not_delivered net number (option_map letter_of o) ≡ Some (net_faults.NoMessage missing) → DeliversTo net number o (Err (faults.NoMessage number))
      by None e = refl
      by (Some sent) e = down sent (is_down (link_of net (client_of sent) (server_of sent))) e

  module _ (letter : Letter) (there : letter_at net.letters number ≡ Some letter) (up : deliver_refusal net number ≡ None) where
    -- what the letter says
    pub record IsSaid : Type 0 where
      pub sent : Sent
      pub is : sent_at number waiting ≡ Some sent
      pub letter_is : letter_of sent ≡ letter
      pub reached : is_down (link_of net (client_of sent) (server_of sent)) ≡ false

    pub said : IsSaid
    said = by (sent_at number waiting) refl (sym at ∙ there) (ap (not_delivered net number) (sym at) ∙ up)
      where
        link : (b : Bool) → (let o : Option NetFault = cond b (Some net_faults.LinkDown) None in o) ≡ None → b ≡ false
        link true e = cc
        link false e = refl

        by : (o : Option Sent) → sent_at number waiting ≡ o → option_map letter_of o ≡ Some letter → not_delivered net number (option_map letter_of o) ≡ None → IsSaid
        by None is e u = cc
        by (Some sent) is e u = record { sent = sent; is = is; letter_is = cc; reached = link (is_down (link_of net (client_of sent) (server_of sent))) u }

    spelled : Spells message letter.bytes (message_of said.sent)
    spelled = (sym (ap (λ (l : Letter). l.bytes) said.letter_is), said_at number waiting said.sent are.said said.is)

    pub delivers_read : (m : Message) → Reads (Ok m) (Ok (message_of said.sent)) → Delivers waiting net number (Ok m)
    delivers_read m reads =
        let same : message_of said.sent ≡ m = cc in
        inr (subst (λ (o : Option Sent). DeliversTo net number o (Ok m)) (sym said.is) (ap Ok (sym same) ∙ sym (ap (λ b. let r : Result Message LetterFault = cond b (Err faults.LinkDown) (Ok (message_of said.sent)) in r) said.reached)))

    pub read_so : (r : Result Message WireFault) → ((m : Message) → Spells message letter.bytes m → Reads r (Ok m)) → Reads r (Ok (message_of said.sent))
    read_so r only = only (message_of said.sent) spelled

-- ---- losing

module _ (waiting : Waiting) (old new : Pool) (number : ℕ) (are : AreLetters waiting old) where
  here : letter_at old.letters number ≡ option_map letter_of (sent_at number waiting)
  here = ap (λ ls. letter_at ls number) are.letters ∙ at_number number waiting

  pub lost_so : (letter : Letter) → letter_at old.letters number ≡ Some letter → new.letters ≡ without_letter old.letters number → Loses waiting number (Ok letter) new
  lost_so letter there gone = by (sent_at number waiting) (sym here ∙ there)
    where
      by : (o : Option Sent) → option_map letter_of o ≡ Some letter → LosesTo o waiting number (Ok letter) new
      by None e = cc
      by (Some sent) e = (let same : letter_of sent ≡ letter = cc in ap Ok (sym same), letters_lost waiting old new number are gone)

  pub none_lost : letter_at old.letters number ≡ None → new ≡ old → Loses waiting number (Err (faults.NoMessage number)) new
  none_lost none same = by (sent_at number waiting) (sym here ∙ none)
    where
      by : (o : Option Sent) → option_map letter_of o ≡ None → LosesTo o waiting number (Err (faults.NoMessage number)) new
      by None e = (refl, subst (AreLetters waiting) (sym same) are)
      by (Some sent) e = cc
