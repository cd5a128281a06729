-- A chunk that is frozen goes again, and what a drain tells of one is so.
use Rattle.std.proofs.Common.{◌≡◌, ◌≢◌, ◌+◌, ◌≤◌, ℕ, ◌==◌, ◌&&◌, ◌||◌, Bool, true, false, cond, List, [], ◌∷◌, ◌++◌, Option, Some, None, Result, Ok, Err, refl, sym, ap, ◌∙◌, subst, inl, inr, ◌⊎◌, arith}
use Rattle.std.specs.Prelude.{nat_lt, not, is_some}
use Rattle.std.specs.Option.{option_map, option_map_or, unwrap_or}
use Rattle.std.proofs.lemmas.Bool.{cases_Bool, eqb-true, eq-eqb, false≢true}
use Rattle.std.proofs.lemmas.Bool.Decides.{nat_tests}
use Rattle.std.proofs.lemmas.List.{append_assoc, append-nil}
use Rattle.coda_certify.specs.declared.verdict.Verdict.{Verdict}
use Rattle.coda_certify.specs.declared.verdict.Verdict.TheVariants as verdicts
use Rattle.coda_cml.specs.Steps.{settle_refusal}
use Rattle.coda_cml.specs.declared.fault.SettleFault.{SettleFault}
use Rattle.coda_cml.specs.declared.fault.SettleFault.TheVariants.{WrongNumber}
use Rattle.coda_cml.specs.declared.frozen.Frozen.{Frozen}
use Rattle.coda_record.specs.declared.answer.Answer.{Answer as RecordAnswer}
use Rattle.coda_record.specs.declared.answer.Answer.TheVariants.{Applied, Conflict, Behind, Old}
use Rattle.coda_replica.specs.Answers.{answer_of, is_next, told}
use Rattle.coda_certify.specs.Verdicts.{verdict_of}
use Rattle.coda_plain.specs.Cell.{ClientEntry, Did, deed_on, deeds_of, joined_to}
use Rattle.coda_plain.specs.Decisions.{ReplicaEntry, Last, last_of, decision}
use Rattle.coda_plain.specs.Deeds.{Deed, Operated, Froze, Settled, Gaveup, Cut, Course, course_of, course_after, MayDo, AreLawful, Settlement, settlement_at, settlements_of}
use Rattle.coda_plain.specs.Histories.{In}
use Rattle.coda_plain.proofs.Chunking.{course_push}
use Rattle.coda_plain.proofs.Lists.{told_push, in_left, in_right, along}
use Rattle.coda_plain.proofs.Places.{deeds_push}
use Rattle.coda_plain.proofs.Soundness.{none_joins}
use Rattle.coda_actors.specs.Plain.{PlainActor}
use Rattle.coda_journal.specs.declared.header.Header.{Header}
use Rattle.coda_script.specs.declared.line.Strength.{Strength}
use Rattle.coda_script.specs.declared.line.Strength.TheVariants.{Strong, Weak, Down}
use Rattle.coda_script.specs.declared.reply.Answer.{Answer}
use Rattle.coda_script.specs.declared.reply.Answer.TheVariants.{Decided}
use Rattle.coda_script.specs.declared.reply.Reply.{Reply}
use Rattle.coda_script.specs.declared.reply.Reply.TheVariants.{Drained, Sent}
use Rattle.coda_cell.specs.Asking.{Said}
use Rattle.coda_cell.specs.Refused.{Refused}
use Rattle.coda_cell.specs.Refused as refused
use Rattle.coda_cell.specs.Refused.{NoSuchActor}
use Rattle.coda_cell.specs.Made.{client_of, replica_of}
use Rattle.coda_cell.specs.Messages.{over, sends_of, sends}
use Rattle.coda_cell.proofs.Families.{put_here}
use Rattle.coda_cell.proofs.Histories.{volumes_are, volume_of, shown, server_stays, lasts_are}
use Rattle.coda_script.specs.declared.line.Line.TheVariants as line
use Rattle.coda_cell.specs.Refusing.{refusal}
use Rattle.coda_cell.specs.Sending.{deeds_at, entries_at, Freezing, freezing, freezing_of, frozen_for, Ruling, ruling, ruling_of, decides, Taking, taking, taken, taken_unless, reply_answer, answered_to, ruled_on, drained_of, drain}
use Rattle.coda_cell.specs.State.{ClientVolume, ClientState, ReplicaState, new_replica, replica_after_all, CellState, Event, at_client}
use Rattle.coda_cell.specs.Steps.{reply_to, ByBoth, BySend, Unless, Named, client_named, volume_named, holder_named, first_missing, on_holder, alone}
use Rattle.coda_shelves.specs.Cells.{Cell, asked, is_up, Stand, state_of, grown, after, after_all}
use Rattle.coda_shelves.specs.Lines.{is_cut, refused_full, refused_fault, EndsBy, Acts, UnlessDown, DoesUp, Happens, needs, is_down_for}
use Rattle.coda_shelves.specs.Running.{IsKept}
use Rattle.coda_shelves.specs.Shelves.{volume_of as volume_of_header, entries_on}
use Rattle.coda_shelves.proofs.Stopping.{clean_in, named_up}
use Rattle.coda_runs.specs.Going.{drains, HasFrozen, CanGo, FrozenChunksGoAgain, VerdictsAreTold}

-- ---- what a drain says

-- with this chunk frozen, the one that may go is this one, if its server is the one that is asked
module _ (chunk : Frozen) (now window server : ℕ) (v : ClientVolume) (e : v.frozen ≡ Some chunk) where
  goes : freezing now window server v ≡ frozen_for chunk server v
  goes = ap (λ o. freezing_of o now window server v) e

  goes_home : chunk.home ≡ server → freezing now window server v ≡ Ok (record { number = chunk.number; span = v.front; deeds = []; volume = v })
  goes_home home = goes ∙ ap (λ b. cond b (Ok (record { number = chunk.number; span = v.front; deeds = []; volume = v })) (Err (refused.Frozen chunk.number chunk.home))) (eq-eqb chunk.home server home)

  is_this : (f : Freezing) → freezing now window server v ≡ Ok f → (f.number ≡ chunk.number) × (chunk.home ≡ server)
  is_this f is = by (chunk.home == server) refl (sym goes ∙ is)
    where
      by : (b : Bool) → (chunk.home == server) ≡ b → (let r : Result Freezing Refused = cond b (Ok (record { number = chunk.number; span = v.front; deeds = []; volume = v })) (Err (refused.Frozen chunk.number chunk.home)) in r) ≡ Ok f → (f.number ≡ chunk.number) × (chunk.home ≡ server)
      by true same r = let f_is : record { number = chunk.number; span = v.front; deeds = []; volume = v } ≡ f = cc in (ap (λ (x : Freezing). x.number) (sym f_is), eqb-true chunk.home server same)
      by false same r = cc

module _ (client volume number : ℕ) (answer : Answer) where
  abbrev Told : Said → Type 0
  Told said = (let r : Reply = Drained number answer in r) ≡ reply_to said

  names_answered : (f : Freezing) (ruled : Ruling) (o : Result Taking Refused) → Told (answered_to client volume f ruled o).said → number ≡ f.number
  names_answered f ruled (Err why) e = cc
  names_answered f ruled (Ok took) e = cc

  names_ruled : (f : Freezing) (r : ReplicaState) (o : Result Ruling Refused) → Told (ruled_on client volume f r o).said → number ≡ f.number
  names_ruled f r (Err why) e = cc
  names_ruled f r (Ok ruled) e = names_answered f ruled (taking f.number ruled.answer f.volume) e

  names_drained : (chunk : Frozen) (now window : ℕ) (v : ClientVolume) (r : ReplicaState) → v.frozen ≡ Some chunk → (o : Result Freezing Refused) → freezing now window r.server v ≡ o → Told (drained_of client volume v r o).said → number ≡ chunk.number
  names_drained chunk now window v r e (Err why) is t = cc
  names_drained chunk now window v r e (Ok f) is t = names_ruled f r (ruling client f.number f.span r) t ∙ (is_this chunk now window r.server v e f is).0

  pub drain_names : (chunk : Frozen) (strength : Strength) (now window : ℕ) (v : ClientVolume) (r : ReplicaState) → v.frozen ≡ Some chunk → Told (drain strength now window client volume v r).said → number ≡ chunk.number
  drain_names chunk Strong now window v r e t = names_drained chunk now window v r e (freezing now window r.server v) refl t
  drain_names chunk Weak now window v r e t = names_drained chunk now window v r e (freezing now window r.server v) refl t
  drain_names chunk Down now window v r e t = cc

-- ---- it is answered by a verdict

-- a verdict is answered, or no chunk may have this number
abbrev IsRuled : ℕ → Said → Type 0
IsRuled number said = ((verdict : Verdict) × (reply_to said ≡ Drained number (Decided verdict))) ⊎ (said ≡ Err refused.JournalFull)

verdict_told : (number : ℕ) (verdict : Verdict) → (let r : Reply = Drained number (reply_answer (answer_of verdict)) in r) ≡ Drained number (Decided verdict)
verdict_told number verdicts.Applied = refl
verdict_told number (verdicts.Conflict refused why) = refl

module _ (client volume : ℕ) (chunk : Frozen) (v : ClientVolume) (e : v.frozen ≡ Some chunk) where
  abbrev f : Freezing
  f = record { number = chunk.number; span = v.front; deeds = []; volume = v }

  none_refused : settle_refusal v.frozen chunk.number ≡ None
  none_refused = ap (λ o. settle_refusal o chunk.number) e ∙ ap (λ b. cond b None (Some (WrongNumber chunk.number chunk.number))) (eq-eqb chunk.number chunk.number refl)

  takes : (answer : RecordAnswer) → taking chunk.number answer v ≡ Ok (taken chunk.number answer v)
  takes answer = ap (λ o. taken_unless o chunk.number answer v) none_refused

  -- what a ruling says, if it was taken
  says : (ruled : Ruling) → (answered_to client volume f ruled (taking chunk.number ruled.answer v)).said ≡ Ok (Drained chunk.number (reply_answer ruled.answer))
  says ruled = ap (λ o. (answered_to client volume f ruled o).said) (takes ruled.answer)

  ruled_is : (r : ReplicaState) (next full : Bool) → is_next (r.lasts client) chunk.number ≡ next → nat_lt 4294967295 chunk.number ≡ full → ruling client chunk.number v.front r ≡ ruling_of next full client chunk.number v.front r
  ruled_is r next full a b = λ i. ruling_of (a i) (b i) client chunk.number v.front r

  told_is : (last : Last) → is_next last chunk.number ≡ false → chunk.number ≤ last.number + 1 → last.number ≤ chunk.number → 1 ≤ chunk.number → told last chunk.number ≡ answer_of last.verdict
  told_is last other low high first =
      let differs : chunk.number ≢ last.number + 1 = λ same. false≢true (sym other ∙ eq-eqb chunk.number (last.number + 1) same) in
      let same : chunk.number ≡ last.number = omega (arith, low, high, differs) in
      let below : nat_lt last.number chunk.number ≡ false = grind (arith, nat_tests, same) in
      let above : nat_lt 0 chunk.number ≡ true = grind (arith, nat_tests, first) in
      (λ i. cond (below i) (Behind last.number) (cond ((eq-eqb chunk.number last.number same i) && (above i)) (answer_of last.verdict) (Old last.number)))

  pub ruled_said : (r : ReplicaState) → chunk.number ≤ (r.lasts client).number + 1 → (r.lasts client).number ≤ chunk.number → 1 ≤ chunk.number → IsRuled chunk.number (ruled_on client volume f r (ruling client chunk.number v.front r)).said
  ruled_said r low high first = elim (cases_Bool (is_next (r.lasts client) chunk.number)) [
    | inl next ↦ elim (cases_Bool (nat_lt 4294967295 chunk.number)) [
      | inl many ↦ inr (ap (λ o. (ruled_on client volume f r o).said) (ruled_is r true true next many))
      | inr few ↦ (let same = ap (λ o. (ruled_on client volume f r o).said) (ruled_is r true false next few) in
          let verdict = verdict_of (decision r.tree.nodes client v.front) in
          inl (verdict, ap reply_to (same ∙ says (decides client chunk.number v.front r)) ∙ verdict_told chunk.number verdict))
    ]
    | inr other ↦ elim (cases_Bool (nat_lt 4294967295 chunk.number)) [
      | inl many ↦ at_told true (ruled_is r false true other many) other
      | inr few ↦ at_told false (ruled_is r false false other few) other
    ]
  ]
    where
      at_told : (full : Bool) → ruling client chunk.number v.front r ≡ ruling_of false full client chunk.number v.front r → is_next (r.lasts client) chunk.number ≡ false → IsRuled chunk.number (ruled_on client volume f r (ruling client chunk.number v.front r)).said
      at_told full is other =
          let ruled : Ruling = record { answer = told (r.lasts client) chunk.number; entries = []; replica = r } in
          let same = ap (λ o. (ruled_on client volume f r o).said) is in
          inl ((r.lasts client).verdict, ap reply_to (same ∙ says ruled) ∙ ap (λ a. (let r : Reply = Drained chunk.number (reply_answer a) in r)) (told_is (r.lasts client) other low high first) ∙ verdict_told chunk.number (r.lasts client).verdict)

  pub drain_said : (strength : Strength) → is_cut strength ≡ false → (now window : ℕ) (r : ReplicaState) → chunk.home ≡ r.server → chunk.number ≤ (r.lasts client).number + 1 → (r.lasts client).number ≤ chunk.number → 1 ≤ chunk.number
      → IsRuled chunk.number (drain strength now window client volume v r).said
  drain_said Strong up now window r home low high first =
      subst (λ o. IsRuled chunk.number (drained_of client volume v r o).said) (sym (goes_home chunk now window r.server v e home)) (ruled_said r low high first)
  drain_said Weak up now window r home low high first =
      subst (λ o. IsRuled chunk.number (drained_of client volume v r o).said) (sym (goes_home chunk now window r.server v e home)) (ruled_said r low high first)
  drain_said Down up now window r home low high first = absurd (false≢true (sym up))

-- ---- what is settled

module _ (client volume number : ℕ) (verdict : Verdict) where
  abbrev Says : Said → Type 0
  Says said = (let r : Reply = Drained number (Decided verdict) in r) ≡ reply_to said

  -- the last thing that happens is that the client settles the chunk
  pub record EndsSettled (events : List Event) : Type 0 where
    pub before : List Event
    pub is : events ≡ before ++ at_client client (Did volume (Settled number verdict)) ∷ []

  took_settles : (n : ℕ) (answer : RecordAnswer) (v : ClientVolume) (took : Taking) → taking n answer v ≡ Ok took → (let r : Reply = Drained number (Decided verdict) in r) ≡ Drained n (reply_answer answer) → took.deeds ≡ Settled number verdict ∷ []
  took_settles n answer v took t e = by (settle_refusal v.frozen n) answer t e
    where
      by : (o : Option SettleFault) (a : RecordAnswer) → taken_unless o n a v ≡ Ok took → (let r : Reply = Drained number (Decided verdict) in r) ≡ Drained n (reply_answer a) → took.deeds ≡ Settled number verdict ∷ []
      by (Some why) a t e = cc
      by None Applied t e = (let same : taken n Applied v ≡ took = cc in let one : n ≡ number = cc in let v_is : verdicts.Applied ≡ verdict = cc in ap (λ (x : Taking). x.deeds) (sym same) ∙ (λ i. Settled (one i) (v_is i) ∷ []))
      by None (Conflict refused why) t e = (let same : taken n (Conflict refused why) v ≡ took = cc in let one : n ≡ number = cc in let v_is : verdicts.Conflict refused why ≡ verdict = cc in ap (λ (x : Taking). x.deeds) (sym same) ∙ (λ i. Settled (one i) (v_is i) ∷ []))
      by None (Behind last) t e = cc
      by None (Old last) t e = cc

  answered_settles : (f : Freezing) (ruled : Ruling) (o : Result Taking Refused) → taking f.number ruled.answer f.volume ≡ o → Says (answered_to client volume f ruled o).said → EndsSettled (answered_to client volume f ruled o).events
  answered_settles f ruled (Err why) t e = cc
  answered_settles f ruled (Ok took) t e = record {
    before = deeds_at client volume f.deeds ++ entries_at ruled.replica.server volume ruled.entries;
    is = ap (λ d. deeds_at client volume f.deeds ++ (entries_at ruled.replica.server volume ruled.entries ++ deeds_at client volume d)) (took_settles f.number ruled.answer f.volume took t e)
        ∙ sym (append_assoc (deeds_at client volume f.deeds) (entries_at ruled.replica.server volume ruled.entries) (at_client client (Did volume (Settled number verdict)) ∷ []));
  }

  ruled_settles : (f : Freezing) (r : ReplicaState) (o : Result Ruling Refused) → Says (ruled_on client volume f r o).said → EndsSettled (ruled_on client volume f r o).events
  ruled_settles f r (Err why) e = cc
  ruled_settles f r (Ok ruled) e = answered_settles f ruled (taking f.number ruled.answer f.volume) refl e

  drained_settles : (v : ClientVolume) (r : ReplicaState) (o : Result Freezing Refused) → Says (drained_of client volume v r o).said → EndsSettled (drained_of client volume v r o).events
  drained_settles v r (Err why) e = cc
  drained_settles v r (Ok f) e = ruled_settles f r (ruling client f.number f.span r) e

  pub drain_settles : (strength : Strength) (now window : ℕ) (v : ClientVolume) (r : ReplicaState) → Says (drain strength now window client volume v r).said → EndsSettled (drain strength now window client volume v r).events
  drain_settles Strong now window v r e = drained_settles v r (freezing now window r.server v) e
  drain_settles Weak now window v r e = drained_settles v r (freezing now window r.server v) e
  drain_settles Down now window v r e = cc

-- ---- lines

-- what a line that acts comes to: all its events, where its reply is neither that a journal is full nor that a disk failed
ends_own : (old new : Cell) (events : List Event) (own reply : Reply) → EndsBy old events own reply new → ((reply ≡ own) × (new ≡ after_all old events)) ⊎ (reply ≡ refused_full) ⊎ (reply ≡ refused_fault)
ends_own old new events own reply (inl a) = inl (a.1, a.2)
ends_own old new events own reply (inr (inl (stop, fits, lacks, is, same))) = inr (inl is)
ends_own old new events own reply (inr (inr (stop, fits, is, same))) = inr (inr is)

some_once : {A : Type 0} (o : Option A) (a b : A) → o ≡ Some a → o ≡ Some b → a ≡ b
some_once {A = A} o a b x y = let z : (let some : A → Option A = λ v. Some v in some a ≡ some b) = sym x ∙ y in cc

-- a drain that names a chunk has its client and its replica act together, and all that they do happens
module _ (old new : Cell) (client volume server : ℕ) (window : Option ℕ) (number : ℕ) (answer : Answer) (outside : List (List ℕ)) where
  abbrev told_reply : Reply
  told_reply = Drained number answer

  record HasDrained : Type 0 where
    events : List Event
    did : ByBoth (state_of old) client volume (unwrap_or window 600) told_reply events
    new_is : new ≡ after_all old events

  both_did : (o : Option Refused) (own : Reply) (events : List Event) → Unless o (ByBoth (state_of old) client volume (unwrap_or window 600)) own events → told_reply ≡ own → new ≡ after_all old events → HasDrained
  both_did (Some why) own events does same is = absurd (let no : told_reply ≡ refusal why = same ∙ does.0 in cc)
  both_did None own events does same is = record { events = events; did = subst (λ (r : Reply). ByBoth (state_of old) client volume (unwrap_or window 600) r events) (sym same) does; new_is = is }

  did_drain : (down : Bool) → UnlessDown down old (λ reply outside new. (outside ≡ []) × Acts old (drains client volume server window) reply new) told_reply outside new → HasDrained
  did_drain true stays = absurd (let s = stays.0 in cc)
  did_drain false (none, acts) = elim (ends_own old new acts.events acts.own told_reply acts.ends) [
    | inl all ↦ both_did (first_missing (on_holder (state_of old) client volume server)) acts.own acts.events acts.does all.0 all.1
    | inr (inl full) ↦ absurd (let s = full in cc)
    | inr (inr fault) ↦ absurd (let s = fault in cc)
  ]

-- ---- who is there

three_there : (a b c : Named) → a.there ≡ true → b.there ≡ true → c.there ≡ true → first_missing (a ∷ b ∷ c ∷ []) ≡ None
three_there a b c x y z = (λ i. cond (x i) (cond (y i) (cond (z i) None (Some (NoSuchActor c.number))) (Some (NoSuchActor b.number))) (Some (NoSuchActor a.number)))

and_false : (b : Bool) → (b && false) ≡ false
and_false true = refl
and_false false = refl

is_up_now : (b : Bool) → not b ≡ false → b ≡ true
is_up_now true e = refl
is_up_now false e = cc

-- a chunk that is frozen has a number from 1 on
abbrev first_from : List Deed → Type 0
first_from deeds = (cut : Cut) → (course_of deeds).cut ≡ Some cut → 1 ≤ (course_of deeds).chunks

first_push : (deeds : List Deed) (deed : Deed) → first_from deeds → MayDo deeds deed → first_from (deeds ++ deed ∷ [])
first_push deeds deed is may cut e = subst (λ (course : Course). 1 ≤ course.chunks) (sym (course_push deeds deed)) (by deed is may cut (sym (ap (λ (course : Course). course.cut) (course_push deeds deed)) ∙ e))
  where
    by : (deed : Deed) → first_from deeds → MayDo deeds deed → (cut : Cut) → (course_after (course_of deeds) deed).cut ≡ Some cut → 1 ≤ (course_after (course_of deeds) deed).chunks
    by (Operated rec) is may cut e = is cut e
    by (Froze number home last) is may cut e = let next = may.next in omega (arith, next)
    by (Settled number verdict) is may cut e = cc
    by Gaveup is may cut e = is cut e

frozen_first : (deeds : List Deed) → AreLawful deeds → first_from deeds
frozen_first deeds law = along MayDo first_from first_push deeds (λ cut e. cc) law

-- the number of the chunk that a client's log has frozen
module _ (cell : Cell) (kept : IsKept cell) (client volume : ℕ) (chunk : Frozen) (has : HasFrozen cell client volume chunk) where
  abbrev deeds : List Deed
  deeds = deeds_of volume (cell.clients client).disk.history

  law : AreLawful deeds
  law = (kept.shelves.agree none_joins).lawful client volume

  numbered_so : (chunk.number ≡ (course_of deeds).chunks) × (1 ≤ chunk.number)
  numbered_so = by (course_of deeds).cut refl
    where
      client_is : (o : Option Header) → option_map (λ (header : Header). client_of client (cell.clients client).disk.history header.cache) o ≡ Some has.state → (header : Header) × (client_of client (cell.clients client).disk.history header.cache ≡ has.state)
      client_is None e = cc
      client_is (Some header) e = (header, cc)

      frozen_is : (volume_of deeds).frozen ≡ Some chunk
      frozen_is =
          let there = client_is (asked (cell.clients client).life) has.there in
          sym (ap (λ (v : ClientVolume). v.frozen) (volumes_are client there.0.cache (cell.clients client).disk.history volume)) ∙ ap (λ (c : ClientState). (c.volumes volume).frozen) there.1 ∙ has.frozen

      by : (o : Option Cut) → (course_of deeds).cut ≡ o → (chunk.number ≡ (course_of deeds).chunks) × (1 ≤ chunk.number)
      by None e =
          let no : None ≡ Some chunk = sym (ap (option_map (λ (cut : Cut). let frozen : Frozen = record { number = (course_of deeds).chunks; home = cut.home } in frozen)) e) ∙ sym (shown deeds law).frozen ∙ frozen_is in cc
      by (Some cut) e =
          let same : Some (let frozen : Frozen = record { number = (course_of deeds).chunks; home = cut.home } in frozen) ≡ Some chunk =
          sym (ap (option_map (λ (cut : Cut). let frozen : Frozen = record { number = (course_of deeds).chunks; home = cut.home } in frozen)) e) ∙ sym (shown deeds law).frozen ∙ frozen_is in
          let one : (let frozen : Frozen = record { number = (course_of deeds).chunks; home = cut.home } in frozen) ≡ chunk = cc in
          let number : chunk.number ≡ (course_of deeds).chunks = ap (λ (x : Frozen). x.number) (sym one) in
          (number, subst (λ n. 1 ≤ n) (sym number) (frozen_first deeds law cut e))

-- ---- the laws

drained_number : (cell : Cell) → (client volume server : ℕ) (window : Option ℕ) (chunk : Frozen) (number : ℕ) (answer : Answer) (outside : List (List ℕ)) (new : Cell) → HasFrozen cell client volume chunk
    → Happens cell (drains client volume server window) (Drained number answer) outside new → number ≡ chunk.number
drained_number cell client volume server window chunk number answer outside new has happens =
    let d = did_drain cell new client volume server window number answer outside (is_down_for (needs cell (drains client volume server window))) happens in
    let same = some_once ((state_of cell).clients client) d.did.client has.state d.did.client_there has.there in
    drain_names client volume number answer chunk (cell.links client d.did.replica.server) cell.clock (unwrap_or window 600) (d.did.client.volumes volume) d.did.replica
    (ap (λ (c : ClientState). (c.volumes volume).frozen) same ∙ has.frozen) d.did.answered

sent_names : (s : CellState) (client volume server : ℕ) (chunk : Frozen) (message number window : ℕ) (v : ClientVolume) → v.frozen ≡ Some chunk → (let r : Reply = Sent message number in r) ≡ reply_to (sends s client volume server window v).said
    → (number ≡ chunk.number) × (chunk.home ≡ server)
sent_names s client volume server chunk message number window v e t = at_link (s.links client server) refl
  where
    going_names : (o : Result Freezing Refused) → freezing s.clock window server v ≡ o → (let r : Reply = Sent message number in r) ≡ reply_to (sends_of s client volume server o).said → (number ≡ chunk.number) × (chunk.home ≡ server)
    going_names (Err why) is t = cc
    going_names (Ok f) is t = let one : number ≡ f.number = cc in let this = is_this chunk s.clock window server v e f is in (one ∙ this.0, this.1)

    at_link : (strength : Strength) → s.links client server ≡ strength → (number ≡ chunk.number) × (chunk.home ≡ server)
    at_link Strong is = going_names (freezing s.clock window server v) refl (t ∙ ap (λ l. reply_to (sends_of s client volume server (over l (freezing s.clock window server v))).said) is)
    at_link Weak is = going_names (freezing s.clock window server v) refl (t ∙ ap (λ l. reply_to (sends_of s client volume server (over l (freezing s.clock window server v))).said) is)
    at_link Down is = let no = t ∙ ap (λ l. reply_to (sends_of s client volume server (over l (freezing s.clock window server v))).said) is in cc

sent_number : (cell : Cell) → (client volume server : ℕ) (window : Option ℕ) (chunk : Frozen) (message number : ℕ) (outside : List (List ℕ)) (new : Cell) → HasFrozen cell client volume chunk
    → Happens cell (line.Send client volume server window) (Sent message number) outside new → (number ≡ chunk.number) × (chunk.home ≡ server)
sent_number cell client volume server window chunk message number outside new has happens = by (is_down_for (needs cell (line.Send client volume server window))) happens
  where
    said : Reply
    said = Sent message number

    unless : (o : Option Refused) (own : Reply) (events : List Event) → Unless o (BySend (state_of cell) client volume server (unwrap_or window 600)) own events → Sent message number ≡ own → (number ≡ chunk.number) × (chunk.home ≡ server)
    unless (Some why) own events does same = absurd (let no : (let r : Reply = Sent message number in r) ≡ refusal why = same ∙ does.0 in cc)
    unless None own events did same =
        let one = some_once ((state_of cell).clients client) did.client has.state did.there has.there in
        sent_names (state_of cell) client volume server chunk message number (unwrap_or window 600) (did.client.volumes volume) (ap (λ (c : ClientState). (c.volumes volume).frozen) one ∙ has.frozen) (same ∙ did.answered)

    by : (down : Bool) → UnlessDown down cell (λ reply outside new. (outside ≡ []) × Acts cell (line.Send client volume server window) reply new) (Sent message number) outside new → (number ≡ chunk.number) × (chunk.home ≡ server)
    by true stays = absurd (let s = stays.0 in cc)
    by false (none, acts) = elim (ends_own cell new acts.events acts.own (Sent message number) acts.ends) [
      | inl all ↦ unless (first_missing (on_holder (state_of cell) client volume server)) acts.own acts.events acts.does all.0
      | inr (inl full) ↦ absurd (let s = full in cc)
      | inr (inr fault) ↦ absurd (let s = fault in cc)
    ]

module _ (cell : Cell) (kept : IsKept cell) (client volume : ℕ) (window : Option ℕ) (chunk : Frozen) (reply : Reply) (outside : List (List ℕ)) (new : Cell) (has : HasFrozen cell client volume chunk) (can : CanGo cell client volume chunk.home chunk.number) where
  abbrev home : ℕ
  home = alone can.at.servers

  abbrev history : List ReplicaEntry
  history = (cell.replicas can.at.row home).disk.history

  abbrev replica : ReplicaState
  replica = replica_after_all (new_replica home volume) history

  replica_there : (state_of cell).replicas volume ≡ Some replica
  replica_there = ap (option_map (λ (at : Stand). replica_of (λ server. (cell.replicas at.row server).disk.history) volume (alone at.servers))) can.stands

  server_is : replica.server ≡ chunk.home
  server_is = server_stays (new_replica home volume) history ∙ can.home

  up : is_up (cell.replicas can.at.row home).life ≡ true
  up = is_up_now (is_up (cell.replicas can.at.row home).life)
      (ap (λ s. not (is_up (cell.replicas can.at.row s).life)) can.home ∙ sym (ap (λ (o : Option Stand). option_map_or (λ (at : Stand). not (is_up (cell.replicas at.row chunk.home).life)) o false) can.stands) ∙ can.replica_up)

  last_is : (replica.lasts client) ≡ last_of volume history client
  last_is = lasts_are home volume history client

  reached : (replica.lasts client).number ≤ chunk.number
  reached =
      let clean = clean_in cell kept in
      let named = named_up cell clean kept.pool home volume (can.at, can.stands, refl, up) in
      let fit = (kept.shelves.agree none_joins).fits can.at.row home in
      let most : (last_of (volume_of_header (cell.replicas can.at.row home).disk.header) history client).number ≤ (course_of (deeds_of (volume_of_header (cell.replicas can.at.row home).disk.header) (cell.clients client).disk.history)).chunks = fit.reached client in
      let here : (last_of volume history client).number ≤ (course_of (deeds_of volume (cell.clients client).disk.history)).chunks = subst (λ v. (last_of v history client).number ≤ (course_of (deeds_of v (cell.clients client).disk.history)).chunks) named most in
      let number = (numbered_so cell kept client volume chunk has).0 in
      subst (λ n. n ≤ chunk.number) (ap (λ (l : Last). l.number) (sym last_is)) (subst (λ n. (last_of volume history client).number ≤ n) (sym number) here)

  ahead : chunk.number ≤ (replica.lasts client).number + 1
  ahead = subst (λ n. chunk.number ≤ n + 1) (ap (λ (l : Last). l.number) (sym last_is)) (subst (λ s. chunk.number ≤ (last_of volume (cell.replicas can.at.row s).disk.history client).number + 1) (sym can.home) can.decided)

  all_named : first_missing (on_holder (state_of cell) client volume chunk.home) ≡ None
  all_named = three_there (client_named (state_of cell) client) (volume_named (state_of cell) volume) (holder_named (state_of cell) chunk.home volume)
      (ap is_some has.there) (ap is_some replica_there)
      (ap (λ (o : Option ReplicaState). option_map_or (λ (r : ReplicaState). r.server == chunk.home) o false) replica_there ∙ eq-eqb replica.server chunk.home server_is)

  not_down : is_down_for (needs cell (drains client volume chunk.home window)) ≡ false
  not_down = (λ i. not (is_some (first_missing (on_holder (state_of cell) client volume chunk.home))) && (can.client_up i || can.replica_up i)) ∙ and_false (not (is_some (first_missing (on_holder (state_of cell) client volume chunk.home))))

  abbrev IsAnswered : Reply → Type 0
  IsAnswered r = ((verdict : Verdict) × (r ≡ Drained chunk.number (Decided verdict))) ⊎ (r ≡ refused_full) ⊎ (r ≡ refused_fault)

  ruled : (own : Reply) (events : List Event) → ByBoth (state_of cell) client volume (unwrap_or window 600) own events → IsAnswered own
  ruled own events did =
      let c_same = some_once ((state_of cell).clients client) did.client has.state did.client_there has.there in
      let r_same = some_once ((state_of cell).replicas volume) did.replica replica did.replica_there replica_there in
      let v = has.state.volumes volume in
      let said = drain_said client volume chunk v has.frozen (cell.links client replica.server) (ap (λ s. is_cut (cell.links client s)) server_is ∙ can.linked) cell.clock (unwrap_or window 600) replica (sym server_is) ahead reached (numbered_so cell kept client volume chunk has).1 in
      let answered : own ≡ reply_to (drain (cell.links client replica.server) cell.clock (unwrap_or window 600) client volume v replica).said =
      did.answered ∙ (λ i. reply_to (drain (cell.links client (r_same i).server) cell.clock (unwrap_or window 600) client volume ((c_same i).volumes volume) (r_same i)).said) in
      elim said [
        | inl (verdict, is) ↦ inl (verdict, answered ∙ is)
        | inr full ↦ inr (inl (answered ∙ ap reply_to full))
      ]

  answered_so : Happens cell (drains client volume chunk.home window) reply outside new → IsAnswered reply
  answered_so happens =
      let acts = (subst (λ down. UnlessDown down cell (DoesUp cell (drains client volume chunk.home window)) reply outside new) not_down happens).1 in
      elim (ends_own cell new acts.events acts.own reply acts.ends) [
        | inl all ↦ subst IsAnswered (sym all.0) (ruled acts.own acts.events (subst (λ o. Unless o (ByBoth (state_of cell) client volume (unwrap_or window 600)) acts.own acts.events) all_named acts.does))
        | inr other ↦ inr other
      ]

pub frozen_chunks_go_again : FrozenChunksGoAgain
frozen_chunks_go_again = record {
  drained = λ cell kept client volume server window chunk number answer outside new has happens. drained_number cell client volume server window chunk number answer outside new has happens;
  sent = λ cell kept client volume server window chunk message number outside new has happens. sent_number cell client volume server window chunk message number outside new has happens;
  decided = λ cell kept client volume window chunk reply outside new has can happens. answered_so cell kept client volume window chunk reply outside new has can happens;
}

-- ---- verdicts that are told

after_push : (cell : Cell) (events : List Event) (event : Event) → after_all cell (events ++ event ∷ []) ≡ after (after_all cell events) event
after_push cell [] event = refl
after_push cell (first ∷ events) event = after_push (after cell first) events event

settled_last : (volume : ℕ) (entries : List ClientEntry) (number : ℕ) (verdict : Verdict) → In (record { number = number; verdict = verdict }) (settlements_of (deeds_of volume (entries ++ Did volume (Settled number verdict) ∷ [])))
settled_last volume entries number verdict =
    let s : Settlement = record { number = number; verdict = verdict } in
    let last : deed_on volume (Did volume (Settled number verdict)) ≡ Settled number verdict ∷ [] = ap (λ b. cond b (Settled number verdict ∷ []) []) (eq-eqb volume volume refl) in
    let pushed : deeds_of volume (entries ++ Did volume (Settled number verdict) ∷ []) ≡ deeds_of volume entries ++ Settled number verdict ∷ [] = deeds_push volume entries (Did volume (Settled number verdict)) ∙ ap (λ l. deeds_of volume entries ++ l) last in
    subst (λ ds. In s (settlements_of ds)) (sym pushed)
    (subst (In s) (sym (told_push settlement_at (deeds_of volume entries) (Settled number verdict))) (in_right s (settlements_of (deeds_of volume entries)) (s ∷ []) (inl refl)))

settled_stays : (s : Settlement) (more deeds : List Deed) → In s (settlements_of deeds) → In s (settlements_of (deeds ++ more))
settled_stays s [] deeds i = subst (λ ds. In s (settlements_of ds)) (sym (append-nil deeds)) i
settled_stays s (deed ∷ more) deeds i =
    subst (λ ds. In s (settlements_of ds)) (append_assoc deeds (deed ∷ []) more)
    (settled_stays s more (deeds ++ deed ∷ []) (subst (In s) (sym (told_push settlement_at deeds deed)) (in_left s (settlements_of deeds) (settlement_at deeds deed) i)))

verdict_settled : (cell : Cell) → (client volume server : ℕ) (window : Option ℕ) (number : ℕ) (verdict : Verdict) (outside : List (List ℕ)) (new : Cell) → Happens cell (drains client volume server window) (Drained number (Decided verdict)) outside new
    → In (record { number = number; verdict = verdict }) (settlements_of (deeds_of volume (new.clients client).disk.history))
verdict_settled cell client volume server window number verdict outside new happens =
    let d = did_drain cell new client volume server window number (Decided verdict) outside (is_down_for (needs cell (drains client volume server window))) happens in
    let ends = drain_settles client volume number verdict (cell.links client d.did.replica.server) cell.clock (unwrap_or window 600) (d.did.client.volumes volume) d.did.replica d.did.answered in
    let entry : ClientEntry = Did volume (Settled number verdict) in
    let mid = after_all cell ends.before in
    let new_is : new ≡ after mid (at_client client entry) = d.new_is ∙ ap (after_all cell) (d.did.happened ∙ ends.is) ∙ after_push cell ends.before (at_client client entry) in
    let history : (new.clients client).disk.history ≡ (mid.clients client).disk.history ++ entry ∷ [] =
    ap (λ (c : Cell). (c.clients client).disk.history) new_is ∙ ap (λ (a : PlainActor ClientEntry). a.disk.history) (put_here mid.clients client (grown entry (mid.clients client))) in
    subst (λ h. In (record { number = number; verdict = verdict }) (settlements_of (deeds_of volume h))) (sym history) (settled_last volume (mid.clients client).disk.history number verdict)

pub verdicts_are_told : VerdictsAreTold
verdicts_are_told = record {
  settled = λ cell kept client volume server window number verdict outside new happens. verdict_settled cell client volume server window number verdict outside new happens;
  decided = λ cell new kept then_kept client volume server window number verdict outside happens joins.
      let s = verdict_settled cell client volume server window number verdict outside new happens in
      (then_kept.shelves.agree joins).settled client volume (record { number = number; verdict = verdict }) (found_too joins.clients new client volume (record { number = number; verdict = verdict }) s);
}
  where
    found_too : (joins : ℕ → Bool) (cell : Cell) (client volume : ℕ) (s : Settlement) → In s (settlements_of (deeds_of volume (cell.clients client).disk.history)) → In s (settlements_of (deeds_of volume (entries_on (joins client) (cell.clients client).disk)))
    found_too joins cell client volume s i = by (joins client) (cell.clients client).disk.failed
      where
        by : (b : Bool) (failed : Option ClientEntry) → In s (settlements_of (deeds_of volume (joined_to (cell.clients client).disk.history b failed)))
        by true (Some entry) = subst (λ ds. In s (settlements_of ds)) (sym (deeds_push volume (cell.clients client).disk.history entry)) (settled_stays s (deed_on volume entry) (deeds_of volume (cell.clients client).disk.history) i)
        by true None = i
        by false failed = i
