-- A cell stays kept by a chunk: by its freeze, by its decision and by its settlement, and by all three.
use Rattle.std.proofs.Common.{◌≡◌, ℕ, ◌+◌, ◌<◌, ◌≤◌, ◌==◌, ◌&&◌, Bool, true, false, cond, List, [], ◌∷◌, ◌++◌, map, append-nil, Option, Some, None, option_map, Result, Ok, Err, refl, sym, ap, ◌∙◌, subst, inl, inr, arith}
use Rattle.std.specs.Prelude.{nat_le, nat_lt}
use Rattle.std.proofs.lemmas.Bool.{and_parts, eqb-true, ltb-true}
use Rattle.coda_fid.specs.declared.op.Record.{Record}
use Rattle.coda_certify.specs.declared.verdict.Verdict.{Verdict}
use Rattle.coda_certify.specs.declared.verdict.Verdict.TheVariants as verdict
use Rattle.coda_certify.specs.Verdicts.{verdict_of}
use Rattle.coda_cancel.specs.Numbers.{AreUpTo, AreAbove}
use Rattle.coda_cml.specs.Chunks.{freeze_refusal}
use Rattle.coda_cml.specs.Fronts.{chunk_end, MayGoUpTo}
use Rattle.coda_cml.specs.Segments.{records_upto, records_above, last_in, segments_of}
use Rattle.coda_cml.specs.Steady.{IsSteady}
use Rattle.coda_cml.specs.Steps.{settle_refusal}
use Rattle.coda_cml.specs.declared.fault.FreezeFault.{FreezeFault}
use Rattle.coda_cml.specs.declared.fault.SettleFault.{SettleFault}
use Rattle.coda_cml.specs.declared.frozen.Frozen.{Frozen}
use Rattle.coda_cml.proofs.segments.Fronts.{chunks_cut}
use Rattle.coda_record.specs.declared.answer.Answer.{Answer}
use Rattle.coda_record.specs.declared.answer.Answer.TheVariants.{Applied, Conflict, Behind, Old}
use Rattle.coda_replica.specs.Answers.{answer_of, is_next, told}
use Rattle.coda_plain.specs.Histories.{In}
use Rattle.coda_plain.specs.Deeds.{Deed, Froze, Settled, Cut, end_of, done_by, Course, course_of, full_of, pending_of, Chunk, chunk_at, chunks_of, span_of, MayFreeze, MaySettle, MayDo, AreLawful}
use Rattle.coda_plain.specs.Decisions.{ReplicaEntry, Decided, Last, decision, last_of}
use Rattle.coda_plain.specs.Logs.{front_by}
use Rattle.coda_plain.specs.Cell.{ClientEntry, Did, deeds_of, Actor, PlainCell}
use Rattle.coda_plain.specs.Moves.{AtReplica, done_on, IsFrozenFor, IsKeptBy, IsSent, IsToldOf}
use Rattle.coda_plain.proofs.Chunking.{course_push, full_push, numbered}
use Rattle.coda_plain.proofs.Following.{frozen_now as frozen_for_now, decided_keeps}
use Rattle.coda_plain.proofs.Ledger.{orderly}
use Rattle.coda_plain.proofs.Lists.{follow_push, told_push, in_right}
use Rattle.coda_plain.proofs.Parting.{above_up}
use Rattle.coda_plain.proofs.Ranges.{both_parts, above_twice, above_rising}
use Rattle.coda_cell.specs.State.{ClientVolume, ClientState, ReplicaState, new_replica, Event, Entered, at_client}
use Rattle.coda_cell.specs.Kept.{AreChildrenKept}
use Rattle.coda_cell.specs.Made.{MadeCell, client_of, replica_of, grown, grown_all}
use Rattle.coda_cell.specs.Sending.{Freezing, frozen_now, frozen_unless, freezing_of, freezing, Ruling, decides, ruling_of, ruling, Taking, taken, taken_unless, taking, deeds_at, entries_at, answered_to, ruled_on}
use Rattle.coda_cell.specs.Runs.{IsKept, IsLeft}
use Rattle.coda_cell.specs.Refused.{Refused}
use Rattle.coda_cell.specs.Refused as refused
use Rattle.coda_cell.proofs.Events.{ruling_left}
use Rattle.coda_cell.proofs.Histories.{volume_of, volumes_are, shown, thawed_are, nodes_are, lasts_are, server_stays}
use Rattle.coda_cell.proofs.KeptCells.{lawful, steady, pending_is}
use Rattle.coda_cell.proofs.KeptChildren.{children_of_rest}
use Rattle.coda_cell.proofs.KeptDeeds.{deeds_here, deed_left, decision_left}
use Rattle.coda_cell.proofs.Moving.{HasMore, has_more, AreLeft, are_left_one, are_left_both, kept_behind}

last_between : (m n k : ℕ) (rs : List Record) → AreAbove m rs → AreUpTo n rs → last_in rs ≡ Some k → (m < k) × (k ≤ n)
last_between m n k [] above up e = cc
last_between m n k (rec ∷ []) above up e = (let is : rec.number ≡ k = cc in let a = above.0 in let u = up.0 in (omega (arith, is, a), omega (arith, is, u)))
last_between m n k (rec ∷ next ∷ rest) above up e = last_between m n k (next ∷ rest) above.1 up.1 e

above_in_front : (m n : ℕ) (rs : List Record) → AreAbove m rs → AreAbove m (records_upto n rs)
above_in_front m n [] above = tt
above_in_front m n (rec ∷ rs) above = elim (nat_le rec.number n) as (λ b. AreAbove m (cond b (rec ∷ records_upto n rs) (records_upto n rs))) [ true ↦ (above.0, above_in_front m n rs above.1) | false ↦ above_in_front m n rs above.1 ]

up_in_front : (m n : ℕ) (rs : List Record) → AreUpTo m rs → AreUpTo m (records_upto n rs)
up_in_front m n [] up = tt
up_in_front m n (rec ∷ rs) up = elim (nat_le rec.number n) as (λ b. AreUpTo m (cond b (rec ∷ records_upto n rs) (records_upto n rs))) [ true ↦ (up.0, up_in_front m n rs up.1) | false ↦ up_in_front m n rs up.1 ]

up_behind : (m n : ℕ) (rs : List Record) → AreUpTo m rs → AreUpTo m (records_above n rs)
up_behind m n [] up = tt
up_behind m n (rec ∷ rs) up = elim (nat_lt n rec.number) as (λ b. AreUpTo m (cond b (rec ∷ records_above n rs) (records_above n rs))) [ true ↦ (up.0, up_behind m n rs up.1) | false ↦ up_behind m n rs up.1 ]

-- a front of what is pending that may go by itself may be frozen
pub may_freeze : (deeds : List Deed) (number last : ℕ) → AreLawful deeds → (course_of deeds).cut ≡ None → number ≡ (course_of deeds).chunks + 1 → MayGoUpTo last (pending_of deeds) → MayFreeze deeds number last
may_freeze deeds number last law thawed next goes =
    let o = (orderly deeds law).1 in
    let done = (course_of deeds).done in
    let ends = last_between done (course_of deeds).operations last (records_upto last (pending_of deeds)) (above_in_front done last (pending_of deeds) (above_up done (full_of deeds)))
    (up_in_front (course_of deeds).operations last (pending_of deeds) (up_behind (course_of deeds).operations done (full_of deeds) o.most)) goes.last in
    record { thawed = thawed; next = next; pending = ends.0; there = ends.1; ends = goes.cut }

module _ (cell : MadeCell) (number blocks : ℕ) (kept : IsKept cell) (there : cell.sizes number ≡ Some blocks) (volume : ℕ) where
  abbrev holder : ClientState
  holder = client_of number (cell.acted.clients number).history blocks

  abbrev past : List Deed
  past = done_on cell.acted number volume

  kept_pending : AreChildrenKept holder.held.nodes (pending_of past)
  kept_pending = subst (AreChildrenKept holder.held.nodes) (pending_is cell kept number blocks volume) ((kept.holding number blocks there).kept volume)

  behind_freeze : (chunk home last : ℕ) → AreChildrenKept holder.held.nodes (pending_of (past ++ Froze chunk home last ∷ []))
  behind_freeze chunk home last =
      let same : pending_of (past ++ Froze chunk home last ∷ []) ≡ pending_of past =
      (λ i. records_above (course_push past (Froze chunk home last) i).done (full_push past (Froze chunk home last) i)) ∙ ap (records_above (course_of past).done) (append-nil (full_of past)) in
      subst (AreChildrenKept holder.held.nodes) (sym same) kept_pending

  -- a verdict applies the front of what is pending, or leaves all of it
  left_by : (verdict : Verdict) (cut : Cut) → (course_of past).cut ≡ Some cut → AreChildrenKept holder.held.nodes (records_above (done_by verdict (course_of past)) (full_of past))
  left_by verdict.Applied cut frozen =
      let a = (orderly past (lawful cell kept number volume)).1 in
      let front = a.front cut frozen in
      let parts : records_upto cut.last (pending_of past) ++ records_above cut.last (pending_of past) ≡ pending_of past = both_parts cut.last (pending_of past) (above_rising (course_of past).done (full_of past) a.rising) in
      let ends : end_of (course_of past).cut (course_of past).done ≡ cut.last = ap (λ o. end_of o (course_of past).done) frozen in
      subst (AreChildrenKept holder.held.nodes) (above_twice (course_of past).done cut.last (full_of past) front.pending ∙ ap (λ n. records_above n (full_of past)) (sym ends))
      (children_of_rest holder.held.nodes (records_upto cut.last (pending_of past)) (records_above cut.last (pending_of past))
      (subst IsSteady (sym parts) (steady cell kept number volume)) (subst (AreChildrenKept holder.held.nodes) (sym parts) kept_pending))
  left_by (verdict.Conflict record_number why) cut frozen = kept_pending

  behind_settlement : (chunk : ℕ) (verdict : Verdict) (cut : Cut) → (course_of past).cut ≡ Some cut → AreChildrenKept holder.held.nodes (pending_of (past ++ Settled chunk verdict ∷ []))
  behind_settlement chunk verdict cut frozen =
      let is : pending_of (past ++ Settled chunk verdict ∷ []) ≡ records_above (done_by verdict (course_of past)) (full_of past) =
      (λ i. records_above (course_push past (Settled chunk verdict) i).done (full_push past (Settled chunk verdict) i)) ∙ ap (records_above (done_by verdict (course_of past))) (append-nil (full_of past)) in
      subst (AreChildrenKept holder.held.nodes) (sym is) (left_by verdict cut frozen)

  module _ (server : ℕ) (homed : cell.homes volume ≡ Some server) where
    -- a client freezes a chunk
    pub freeze_left : (chunk home last : ℕ) → MayFreeze past chunk last → IsLeft cell (at_client number (Did volume (Froze chunk home last)) ∷ [])
    freeze_left chunk home last may = deed_left cell number blocks kept there volume server homed (Froze chunk home last) may tt (λ h n. refl) (behind_freeze chunk home last)

    -- a client settles its frozen chunk by a verdict that it is told of, by a letter or at once
    pub settlement_left : (chunk : ℕ) (verdict : Verdict) → MaySettle past chunk → IsToldOf cell.acted number volume chunk verdict → IsLeft cell (at_client number (Did volume (Settled chunk verdict)) ∷ [])
    settlement_left chunk verdict may told = deed_left cell number blocks kept there volume server homed (Settled chunk verdict) may told (λ h n. refl) (behind_settlement chunk verdict may.cut may.frozen)

-- A chunk went for a server: what its client did for it might happen and keeps the cell, it is frozen then, and its operations are those of
-- the chunk of this number.
pub record IsGone (cell : MadeCell) (number server volume : ℕ) (f : Freezing) : Type 0 where
  pub left : AreLeft cell (deeds_at number volume f.deeds)
  pub frozen : IsFrozenFor (grown_all cell (deeds_at number volume f.deeds)).acted number server volume f.number
  pub span : f.span ≡ span_of (done_on (grown_all cell (deeds_at number volume f.deeds)).acted number volume) f.number

module _ (cell : MadeCell) (number blocks : ℕ) (kept : IsKept cell) (there : cell.sizes number ≡ Some blocks) (volume server : ℕ) (homed : cell.homes volume ≡ Some server) (now window : ℕ) where
  abbrev client : ClientState
  client = client_of number (cell.acted.clients number).history blocks

  abbrev log : ClientVolume
  log = client.volumes volume

  abbrev deeds : List Deed
  deeds = done_on cell.acted number volume

  law : AreLawful deeds
  law = lawful cell kept number volume

  is_left : log ≡ volume_of deeds
  is_left = volumes_are number blocks (cell.acted.clients number).history volume

  -- one that is frozen now
  module _ (none : log.frozen ≡ None) (free : freeze_refusal None now window (segments_of log.back) ≡ None) where
    abbrev chunk : ℕ
    chunk = (frozen_now now window server log).number

    abbrev last : ℕ
    last = chunk_end now window 64 log.back

    abbrev froze : Deed
    froze = Froze chunk server last

    abbrev first : MadeCell
    first = grown cell (at_client number (Did volume froze))

    none_frozen : (volume_of deeds).frozen ≡ None
    none_frozen = sym (ap (λ (v : ClientVolume). v.frozen) is_left) ∙ none

    thaw : (course_of deeds).cut ≡ None
    thaw = (thawed_are deeds law none_frozen).0

    back_is : log.back ≡ pending_of deeds
    back_is = ap (λ (v : ClientVolume). v.back) is_left ∙ (thawed_are deeds law none_frozen).1

    goes : MayGoUpTo last (pending_of deeds)
    goes = subst (λ back. MayGoUpTo (chunk_end now window 64 back) (pending_of deeds)) (sym back_is)
        (chunks_cut now window 64 (pending_of deeds) (above_rising (course_of deeds).done (full_of deeds) (orderly deeds law).1.rising) (subst (λ back. freeze_refusal None now window (segments_of back) ≡ None) back_is free))

    chunk_next : chunk ≡ (course_of deeds).chunks + 1
    chunk_next = ap (λ n. n + 1) (ap (λ (v : ClientVolume). v.chunks) is_left ∙ (shown deeds law).chunks)

    freezes : MayFreeze deeds chunk last
    freezes = may_freeze deeds chunk last law thaw chunk_next goes

    deeds_first : done_on first.acted number volume ≡ deeds ++ froze ∷ []
    deeds_first = deeds_here cell number blocks kept there volume server homed froze freezes tt (λ h n. refl) (behind_freeze cell number blocks kept there volume chunk server last)

    -- the span is that of the chunk by the client's history
    span_is : (frozen_now now window server log).span ≡ span_of (done_on first.acted number volume) chunk
    span_is =
        let new : Chunk = record { number = chunk; home = server; span = records_upto last (pending_of deeds) } in
        let listed : In new (chunks_of (deeds ++ froze ∷ [])) = subst (In new) (sym (told_push chunk_at deeds froze)) (in_right new (chunks_of deeds) (new ∷ []) (inl refl)) in
        ap (records_upto last) back_is ∙ sym ((numbered (deeds ++ froze ∷ []) (follow_push MayDo deeds froze law freezes)).own new listed) ∙ sym (ap (λ ds. span_of ds chunk) deeds_first)

    gone_now : IsGone cell number server volume (frozen_now now window server log)
    gone_now = record {
      left = are_left_one cell (at_client number (Did volume froze)) (freeze_left cell number blocks kept there volume server homed chunk server last freezes);
      frozen = frozen_for_now cell.acted number volume server last chunk (kept.up.clients number);
      span = span_is;
    }

  -- one that was frozen before
  module _ (chunk : Frozen) (some : log.frozen ≡ Some chunk) (home : chunk.home ≡ server) where
    by_course : (o : Option Cut) → (course_of deeds).cut ≡ o → Some chunk ≡ option_map (λ (cut : Cut). let frozen : Frozen = record { number = (course_of deeds).chunks; home = cut.home } in frozen) o
        → IsGone cell number server volume (record { number = chunk.number; span = log.front; deeds = []; volume = log })
    by_course None none e = cc
    by_course (Some cut) frozen e =
        let same : chunk ≡ record { number = (course_of deeds).chunks; home = cut.home } = cc in
        record {
          left = kept;
          frozen = record { up = kept.up.clients number; cut = cut; frozen = frozen; home = sym (ap (λ (c : Frozen). c.home) same) ∙ home; last = ap (λ (c : Frozen). c.number) same };
          span = ap (λ (v : ClientVolume). v.front) is_left ∙ (shown deeds law).front ∙ ap (λ o. front_by o (pending_of deeds)) frozen ∙ sym ((orderly deeds law).1.front cut frozen).span
              ∙ sym (ap (λ (c : Frozen). span_of deeds c.number) same);
        }

    gone_before : IsGone cell number server volume (record { number = chunk.number; span = log.front; deeds = []; volume = log })
    gone_before = by_course (course_of deeds).cut refl (sym some ∙ ap (λ (v : ClientVolume). v.frozen) is_left ∙ (shown deeds law).frozen)

  -- whichever it is
  pub gone : (f : Freezing) → freezing now window server log ≡ Ok f → IsGone cell number server volume f
  gone f e = by log.frozen refl e
    where
      here : log.frozen ≡ None → (o : Option FreezeFault) → freeze_refusal None now window (segments_of log.back) ≡ o → frozen_unless o now window server log ≡ Ok f → IsGone cell number server volume f
      here none (Some why) free e = cc
      here none None free e = room (nat_le 4294967295 log.chunks) e
        where
          room : (b : Bool) → (let r : Result Freezing Refused = cond b (Err refused.JournalFull) (Ok (frozen_now now window server log)) in r) ≡ Ok f → IsGone cell number server volume f
          room true e = cc
          room false e = (let same : frozen_now now window server log ≡ f = cc in subst (IsGone cell number server volume) same (gone_now none free))

      held : (chunk : Frozen) → log.frozen ≡ Some chunk → (b : Bool) → (chunk.home == server) ≡ b
          → (let r : Result Freezing Refused = cond b (Ok (record { number = chunk.number; span = log.front; deeds = []; volume = log })) (Err (refused.Frozen chunk.number chunk.home)) in r) ≡ Ok f → IsGone cell number server volume f
      held chunk some false home e = cc
      held chunk some true home e =
          let kept : Freezing = record { number = chunk.number; span = log.front; deeds = []; volume = log } in
          let same : kept ≡ f = cc in
          subst (IsGone cell number server volume) same (gone_before chunk some (eqb-true chunk.home server home))

      by : (o : Option Frozen) → log.frozen ≡ o → freezing_of o now window server log ≡ Ok f → IsGone cell number server volume f
      by None none e = here none (freeze_refusal None now window (segments_of log.back)) refl e
      by (Some chunk) some e = held chunk some (chunk.home == server) refl e

-- the answer to a chunk, where it is a verdict, is one that the server keeps
abbrev pub KeepsAnswer : PlainCell → ℕ → ℕ → ℕ → ℕ → Answer → Type 0
KeepsAnswer cell c server volume number Applied = IsKeptBy cell c server volume number verdict.Applied
KeepsAnswer cell c server volume number (Conflict record_number why) = IsKeptBy cell c server volume number (verdict.Conflict record_number why)
KeepsAnswer cell c server volume number (Behind decided) = Unit {0}
KeepsAnswer cell c server volume number (Old decided) = Unit {0}

-- a chunk of this number was ruled on: what the server did for it might happen and keeps the cell, no client did anything, and it keeps what
-- it answered
pub record IsRuled (cell : MadeCell) (client server volume number : ℕ) (ruled : Ruling) : Type 0 where
  pub left : AreLeft cell (entries_at server volume ruled.entries)
  pub clients : (grown_all cell (entries_at server volume ruled.entries)).acted.clients ≡ cell.acted.clients
  pub sizes : (grown_all cell (entries_at server volume ruled.entries)).sizes ≡ cell.sizes
  pub homes : (grown_all cell (entries_at server volume ruled.entries)).homes ≡ cell.homes
  pub keeps : KeepsAnswer (grown_all cell (entries_at server volume ruled.entries)).acted client server volume number ruled.answer

keeps_verdict : (cell : PlainCell) (client server volume number : ℕ) (verdict : Verdict) → IsKeptBy cell client server volume number verdict → KeepsAnswer cell client server volume number (answer_of verdict)
keeps_verdict cell c server volume number verdict.Applied keeps = keeps
keeps_verdict cell c server volume number (verdict.Conflict record_number why) keeps = keeps

module _ (cell : MadeCell) (kept : IsKept cell) (volume server : ℕ) (homed : cell.homes volume ≡ Some server) (client number : ℕ) (span : List Record) (sent : IsSent cell.acted client server volume number)
    (span_is : span ≡ span_of (done_on cell.acted client volume) number) where
  abbrev home : ReplicaState
  home = replica_of (λ s. (cell.acted.replicas s volume).history) volume server

  abbrev kept_last : Last
  kept_last = last_of volume (cell.acted.replicas server volume).history client

  last_is : home.lasts client ≡ kept_last
  last_is = lasts_are server volume (cell.acted.replicas server volume).history client

  ruled_next : (o : Bool) → is_next (home.lasts client) number ≡ true → (ruled : Ruling) → ruling_of true o client number span home ≡ Ok ruled → IsRuled cell client server volume number ruled
  ruled_next true next ruled e = cc
  ruled_next false next ruled e =
      let next_is : number ≡ kept_last.number + 1 = eqb-true number ((home.lasts client).number + 1) next ∙ ap (λ (l : Last). l.number + 1) last_is in
      let same : decides client number span home ≡ ruled = cc in
      let nodes = nodes_are server volume (cell.acted.replicas server volume).history in
      subst (IsRuled cell client server volume number) same (record {
        left = are_left_one cell (Entered (AtReplica server volume (Decided client number span))) (decision_left cell kept volume server homed client number span next_is sent span_is);
        clients = refl;
        sizes = refl;
        homes = refl;
        keeps = subst (λ m. KeepsAnswer (grown_all cell (entries_at server volume (Decided client number span ∷ []))).acted client server volume number (answer_of (verdict_of (decision m client span)))) (sym nodes)
            (keeps_verdict (grown_all cell (entries_at server volume (Decided client number span ∷ []))).acted client server volume number _ (decided_keeps cell.acted client server volume number span (kept.up.replicas server volume) next_is));
      })

  keeps_told : KeepsAnswer cell.acted client server volume number (told (home.lasts client) number)
  keeps_told = subst (λ l. KeepsAnswer cell.acted client server volume number (told l number)) (sym last_is) (by (nat_lt kept_last.number number))
    where
      here : (b : Bool) → ((number == kept_last.number) && nat_lt 0 number) ≡ b → KeepsAnswer cell.acted client server volume number (cond b (answer_of kept_last.verdict) (Old kept_last.number))
      here false e = tt
      here true e =
          let both = and_parts (number == kept_last.number) (nat_lt 0 number) e in
          let same : number ≡ kept_last.number = eqb-true number kept_last.number both.0 in
          keeps_verdict cell.acted client server volume number kept_last.verdict (record { up = kept.up.replicas server volume; some = ltb-true 0 number both.1; last = λ i. record { number = sym same i; verdict = kept_last.verdict } })

      by : (b : Bool) → KeepsAnswer cell.acted client server volume number (cond b (Behind kept_last.number) (cond ((number == kept_last.number) && nat_lt 0 number) (answer_of kept_last.verdict) (Old kept_last.number)))
      by true = tt
      by false = here ((number == kept_last.number) && nat_lt 0 number) refl

  -- whatever it answers
  pub ruled_left : (ruled : Ruling) → ruling client number span home ≡ Ok ruled → IsRuled cell client server volume number ruled
  ruled_left ruled e = by (is_next (home.lasts client) number) refl e
    where
      by : (b : Bool) → is_next (home.lasts client) number ≡ b → ruling_of b (nat_lt 4294967295 number) client number span home ≡ Ok ruled → IsRuled cell client server volume number ruled
      by true next e = ruled_next (nat_lt 4294967295 number) next ruled e
      by false next e =
          let tells : Ruling = record { answer = told (home.lasts client) number; entries = []; replica = home } in
          let same : tells ≡ ruled = cc in
          subst (IsRuled cell client server volume number) same (record { left = kept; clients = refl; sizes = refl; homes = refl; keeps = keeps_told })

-- a client is told of a verdict, where the answer is one
abbrev pub IsToldAnswer : PlainCell → ℕ → ℕ → ℕ → Answer → Type 0
IsToldAnswer cell c volume number Applied = IsToldOf cell c volume number verdict.Applied
IsToldAnswer cell c volume number (Conflict record_number why) = IsToldOf cell c volume number (verdict.Conflict record_number why)
IsToldAnswer cell c volume number (Behind decided) = Unit {0}
IsToldAnswer cell c volume number (Old decided) = Unit {0}

pub told_at_once : (cell : PlainCell) (client server volume number : ℕ) (answer : Answer) → KeepsAnswer cell client server volume number answer → IsToldAnswer cell client volume number answer
told_at_once cell c server volume number Applied keeps = (server, inr keeps)
told_at_once cell c server volume number (Conflict record_number why) keeps = (server, inr keeps)
told_at_once cell c server volume number (Behind decided) keeps = tt
told_at_once cell c server volume number (Old decided) keeps = tt

module _ (cell : MadeCell) (number blocks : ℕ) (kept : IsKept cell) (there : cell.sizes number ≡ Some blocks) (volume server : ℕ) (homed : cell.homes volume ≡ Some server) (chunk : ℕ) (may : MaySettle (done_on cell.acted number volume) chunk) where
  abbrev settled : Verdict → Event
  settled verdict = at_client number (Did volume (Settled chunk verdict))

  pub taken_left : (v : ClientVolume) (answer : Answer) → IsToldAnswer cell.acted number volume chunk answer → AreLeft cell (deeds_at number volume (taken chunk answer v).deeds)
  taken_left v Applied told = are_left_one cell (settled verdict.Applied) (settlement_left cell number blocks kept there volume server homed chunk verdict.Applied may told)
  taken_left v (Conflict record_number why) told =
      are_left_one cell (settled (verdict.Conflict record_number why)) (settlement_left cell number blocks kept there volume server homed chunk (verdict.Conflict record_number why) may told)
  taken_left v (Behind decided) told = kept
  taken_left v (Old decided) told = kept

  pub taking_left : (v : ClientVolume) (answer : Answer) (took : Taking) → IsToldAnswer cell.acted number volume chunk answer → taking chunk answer v ≡ Ok took → AreLeft cell (deeds_at number volume took.deeds)
  taking_left v answer took told e = by (settle_refusal v.frozen chunk) e
    where
      by : (o : Option SettleFault) → taken_unless o chunk answer v ≡ Ok took → AreLeft cell (deeds_at number volume took.deeds)
      by (Some why) e = cc
      by None e = (let same : taken chunk answer v ≡ took = cc in subst (λ (t : Taking). AreLeft cell (deeds_at number volume t.deeds)) same (taken_left v answer told))

module _ (cell : MadeCell) (number blocks : ℕ) (kept : IsKept cell) (there : cell.sizes number ≡ Some blocks) (volume server : ℕ) (homed : cell.homes volume ≡ Some server) (f : Freezing) (g : IsGone cell number server volume f) where
  abbrev second : MadeCell
  second = grown_all cell (deeds_at number volume f.deeds)

  more : HasMore cell second number (map (Did volume) f.deeds)
  more = has_more cell number (map (Did volume) f.deeds)

  homed_second : second.homes volume ≡ Some server
  homed_second = ap (λ h. h volume) more.homes ∙ homed

  -- the replica is as it was
  home_second : replica_of (λ s. (second.acted.replicas s volume).history) volume server ≡ replica_of (λ s. (cell.acted.replicas s volume).history) volume server
  home_second = ap (λ (r : ℕ → ℕ → Actor ReplicaEntry). replica_of (λ s. (r s volume).history) volume server) more.replicas

  module _ (ruled : Ruling) (rules : IsRuled second number server volume f.number ruled) where
    abbrev third : MadeCell
    third = grown_all second (entries_at server volume ruled.entries)

    frozen_third : IsFrozenFor third.acted number server volume f.number
    frozen_third =
        let course : (course_of (done_on third.acted number volume)) ≡ course_of (done_on second.acted number volume) = ap (λ (clients : ℕ → Actor ClientEntry). course_of (deeds_of volume (clients number).history)) rules.clients in
        record {
          up = ap (λ (clients : ℕ → Actor ClientEntry). (clients number).up) rules.clients ∙ g.frozen.up;
          cut = g.frozen.cut;
          frozen = ap (λ (c : Course). c.cut) course ∙ g.frozen.frozen;
          home = g.frozen.home;
          last = g.frozen.last ∙ sym (ap (λ (c : Course). c.chunks) course);
        }

    may : MaySettle (done_on third.acted number volume) f.number
    may = record { cut = frozen_third.cut; frozen = frozen_third.frozen; last = frozen_third.last }

    took_left : (took : Taking) → taking f.number ruled.answer f.volume ≡ Ok took → AreLeft third (deeds_at number volume took.deeds)
    took_left took e = taking_left third number blocks (kept_behind second (entries_at server volume ruled.entries) rules.left) (ap (λ s. s number) rules.sizes ∙ ap (λ s. s number) more.sizes ∙ there) volume server (ap (λ h. h volume) rules.homes ∙ homed_second) f.number may
        f.volume ruled.answer took (told_at_once third.acted number server volume f.number ruled.answer rules.keeps) e

    pub answered_left : (o : Result Taking Refused) → taking f.number ruled.answer f.volume ≡ o → ruled.replica.server ≡ server → AreLeft cell (answered_to number volume f ruled o).events
    answered_left (Err why) e at = subst (λ s. AreLeft cell (deeds_at number volume f.deeds ++ entries_at s volume ruled.entries)) (sym at)
        (are_left_both cell (deeds_at number volume f.deeds) (entries_at server volume ruled.entries) g.left rules.left)
    answered_left (Ok took) e at = subst (λ s. AreLeft cell (deeds_at number volume f.deeds ++ (entries_at s volume ruled.entries ++ deeds_at number volume took.deeds))) (sym at)
        (are_left_both cell (deeds_at number volume f.deeds) (entries_at server volume ruled.entries ++ deeds_at number volume took.deeds) g.left
        (are_left_both second (entries_at server volume ruled.entries) (deeds_at number volume took.deeds) rules.left (took_left took e)))

  -- a chunk went, and was ruled on
  pub ruled_on_left : (r : ReplicaState) → replica_of (λ s. (cell.acted.replicas s volume).history) volume server ≡ r → (o : Result Ruling Refused) → ruling number f.number f.span r ≡ o → AreLeft cell (ruled_on number volume f r o).events
  ruled_on_left r is (Err why) e = g.left
  ruled_on_left r is (Ok ruled) e =
      let rules = ruled_left second (kept_behind cell (deeds_at number volume f.deeds) g.left) volume server homed_second number f.number f.span (inr g.frozen) g.span ruled (ap (ruling number f.number f.span) (home_second ∙ is) ∙ e) in
      let at : r.server ≡ server = ap (λ (x : ReplicaState). x.server) (sym is) ∙ server_stays (new_replica server volume) (cell.acted.replicas server volume).history in
      answered_left ruled rules (taking f.number ruled.answer f.volume) refl ((ruling_left number f.number f.span r ruled e).1 ∙ at)
