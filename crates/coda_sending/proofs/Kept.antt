-- Histories go on by a chunk: what a client or a replica does for one may follow in a cell, and leaves what the freeze, the ruling or the answer
-- says.
use Rattle.std.proofs.Common.{◌≡◌, ℕ, ◌+◌, ◌==◌, Bool, true, false, cond, List, [], ◌∷◌, ◌++◌, append-nil, Option, Some, None, option_map, Result, Ok, Err, refl, sym, ap, ◌∙◌, subst, inl, inr}
use Rattle.std.specs.Prelude.{nat_le, nat_lt}
use Rattle.coda_fid.specs.declared.op.Record.{Record}
use Rattle.std.proofs.lemmas.Bool.{eqb-true, eq-eqb, cases_Bool}
use Rattle.coda_certify.specs.declared.verdict.Verdict.TheVariants as verdict
use Rattle.coda_cml.specs.Chunks.{freeze_refusal}
use Rattle.coda_cml.specs.Fronts.{chunk_end, MayGoUpTo}
use Rattle.coda_cml.specs.Segments.{segments_of}
use Rattle.coda_cml.specs.Steps.{settle_refusal}
use Rattle.coda_cml.specs.declared.fault.FreezeFault.{FreezeFault}
use Rattle.coda_cml.specs.declared.fault.SettleFault.{SettleFault}
use Rattle.coda_cml.specs.declared.fault.SettleFault.TheVariants as settle
use Rattle.coda_cml.specs.declared.frozen.Frozen.{Frozen}
use Rattle.coda_cml.proofs.segments.Fronts.{chunks_cut}
use Rattle.coda_journal.specs.declared.header.Header.{Header}
use Rattle.coda_plain.specs.Cell.{ClientEntry, Did, deeds_of}
use Rattle.coda_plain.specs.Deeds.{Deed, Froze, Settled, Cut, course_of, full_of, pending_of, MayFreeze, MaySettle, MayDo, AreLawful}
use Rattle.coda_plain.specs.Decisions.{ReplicaEntry, Decided, Last, MayDecide}
use Rattle.coda_plain.specs.Histories.{In}
use Rattle.coda_plain.proofs.Ledger.{orderly}
use Rattle.coda_plain.proofs.Lists.{follow_push, in_parts}
use Rattle.coda_plain.proofs.Places.{deeds_push}
use Rattle.coda_plain.proofs.Ranges.{above_rising}
use Rattle.coda_record.specs.declared.answer.Answer.{Answer}
use Rattle.coda_record.specs.declared.answer.Answer.TheVariants as answer
use Rattle.coda_venus.specs.History.{IsHistory}
use Rattle.coda_replica.specs.Answers.{is_next, told}
use Rattle.coda_replica.specs.History.{IsHistory as IsReplicaJournal}
use Rattle.coda_cell.specs.Sending.{Freezing, frozen_now, frozen_unless, freezing_of, freezing, Ruling, decides, ruling_of, ruling, Taking, taken, taken_unless, taking}
use Rattle.coda_cell.specs.State.{ClientVolume, volume_after, ClientState, new_client, ReplicaState, new_replica, replica_after_all}
use Rattle.coda_cell.specs.Refused.{Refused}
use Rattle.coda_cell.specs.Refused as refused
use Rattle.coda_cell.proofs.Histories.{client_push, volume_of, volumes_are, shown, thawed_are, frozen_by, replica_push, lasts_are}
use Rattle.coda_cell.proofs.KeptChunks.{may_freeze}
use Rattle.coda_matching.specs.Clients.{journal_by, IsClientHistory}
use Rattle.coda_matching.specs.Replicas.{journal_at, IsDecision, IsReplicaHistory}
use Rattle.coda_sending.specs.Ending.{entries_on}
use Rattle.coda_sending.proofs.Endings.{volume_by}

-- The history goes on with these deeds on a volume: it is one that the client may have, and it leaves this of the volume.
pub record GoesOn (header : Header) (history : List ClientEntry) (volume : ℕ) (deeds : List Deed) (left : ClientVolume) : Type 0 where
  pub lawful : IsClientHistory header (history ++ entries_on volume deeds)
  pub leaves : volume_by header (history ++ entries_on volume deeds) volume ≡ left

module _ (header : Header) (history : List ClientEntry) (volume : ℕ) (is : IsClientHistory header history) where
  abbrev v : ClientVolume
  v = volume_by header history volume

  abbrev deeds : List Deed
  deeds = deeds_of volume history

  is_left : v ≡ volume_of deeds
  is_left = volumes_are header.number header.cache history volume

  -- no deed
  stays : GoesOn header history volume [] v
  stays = record {
    lawful = subst (IsClientHistory header) (sym (append-nil history)) is;
    leaves = ap (λ (h : List ClientEntry). volume_by header h volume) (append-nil history);
  }

  -- ---- one deed

  module _ (deed : Deed) where
    laws_push : MayDo deeds deed → (other : ℕ) → AreLawful (deeds_of other (history ++ Did volume deed ∷ []))
    laws_push may other = subst AreLawful (sym (deeds_push other history (Did volume deed))) (elim (cases_Bool (other == volume)) [
      | inl same ↦ subst (λ b. AreLawful (deeds_of other history ++ cond b (deed ∷ []) [])) (sym same)
          (follow_push MayDo (deeds_of other history) deed (is.deeds other) (subst (λ x. MayDo (deeds_of x history) deed) (sym (eqb-true other volume same)) may))
      | inr off ↦ subst (λ b. AreLawful (deeds_of other history ++ cond b (deed ∷ []) [])) (sym off) (subst AreLawful (sym (append-nil (deeds_of other history))) (is.deeds other))
    ])

    leaves_push : volume_by header (history ++ Did volume deed ∷ []) volume ≡ volume_after v deed
    leaves_push = ap (λ (c : ClientState). c.volumes volume) (client_push (new_client header.number header.cache) history (Did volume deed)) ∙ ap (λ b. cond b (volume_after v deed) v) (eq-eqb volume volume refl)

    goes_on : MayDo deeds deed → IsHistory header (journal_by (history ++ Did volume deed ∷ [])) → GoesOn header history volume (deed ∷ []) (volume_after v deed)
    goes_on may journal = record { lawful = record { journal = journal; deeds = laws_push may }; leaves = leaves_push }

  -- ---- a freeze

  module _ (now window server : ℕ) where
    -- a chunk that is frozen now may be frozen
    module _ (none : v.frozen ≡ None) (free : freeze_refusal None now window (segments_of v.back) ≡ None) where
      abbrev last : ℕ
      last = chunk_end now window 64 v.back

      none_frozen : (volume_of deeds).frozen ≡ None
      none_frozen = sym (ap (λ (x : ClientVolume). x.frozen) is_left) ∙ none

      back_is : v.back ≡ pending_of deeds
      back_is = ap (λ (x : ClientVolume). x.back) is_left ∙ (thawed_are deeds (is.deeds volume) none_frozen).1

      goes : MayGoUpTo last (pending_of deeds)
      goes = subst (λ back. MayGoUpTo (chunk_end now window 64 back) (pending_of deeds)) (sym back_is)
          (chunks_cut now window 64 (pending_of deeds) (above_rising (course_of deeds).done (full_of deeds) (orderly deeds (is.deeds volume)).1.rising)
          (subst (λ back. freeze_refusal None now window (segments_of back) ≡ None) back_is free))

      may : MayFreeze deeds (v.chunks + 1) last
      may = may_freeze deeds (v.chunks + 1) last (is.deeds volume) (thawed_are deeds (is.deeds volume) none_frozen).0
          (ap (λ n. n + 1) (ap (λ (x : ClientVolume). x.chunks) is_left ∙ (shown deeds (is.deeds volume)).chunks)) goes

    -- what a freeze leaves is its own, with the chunk's operations in front
    abbrev pub IsFrozenSo : Freezing → Type 0
    IsFrozenSo f = (IsHistory header (journal_by (history ++ entries_on volume f.deeds)) → GoesOn header history volume f.deeds f.volume) × (f.volume.front ≡ f.span)

    pub frozen_so : (f : Freezing) → freezing now window server v ≡ Ok f → IsFrozenSo f
    frozen_so f e = by v.frozen refl e
      where
        here : v.frozen ≡ None → (o : Option FreezeFault) → freeze_refusal None now window (segments_of v.back) ≡ o → frozen_unless o now window server v ≡ Ok f → IsFrozenSo f
        here none (Some why) free e = cc
        here none None free e = room (nat_le 4294967295 v.chunks) e
          where
            room : (b : Bool) → (let r : Result Freezing Refused = cond b (Err refused.JournalFull) (Ok (frozen_now now window server v)) in r) ≡ Ok f → IsFrozenSo f
            room true e = cc
            room false e =
                let same : frozen_now now window server v ≡ f = cc in
                subst IsFrozenSo same (goes_on (Froze (v.chunks + 1) server (chunk_end now window 64 v.back)) (may none free), refl)

        there : (chunk : Frozen) (b : Bool) → (let r : Result Freezing Refused = cond b (Ok (record { number = chunk.number; span = v.front; deeds = []; volume = v })) (Err (refused.Frozen chunk.number chunk.home)) in r) ≡ Ok f → IsFrozenSo f
        there chunk false e = cc
        there chunk true e =
            let kept : Freezing = record { number = chunk.number; span = v.front; deeds = []; volume = v } in
            let same : kept ≡ f = cc in
            subst IsFrozenSo same (λ journal. stays, refl)

        by : (o : Option Frozen) → v.frozen ≡ o → freezing_of o now window server v ≡ Ok f → IsFrozenSo f
        by None none e = here none (freeze_refusal None now window (segments_of v.back)) refl e
        by (Some chunk) some e = there chunk (chunk.home == server) e

  -- ---- an answer

  -- a verdict on the chunk that is frozen may be taken
  may_by : (number : ℕ) (o : Option Cut) → (course_of deeds).cut ≡ o → settle_refusal (option_map (λ (cut : Cut). let frozen : Frozen = record { number = (course_of deeds).chunks; home = cut.home } in frozen) o) number ≡ None → MaySettle deeds number
  may_by number None cut e = cc
  may_by number (Some cut) frozen e = by ((course_of deeds).chunks == number) refl e
    where
      by : (b : Bool) → ((course_of deeds).chunks == number) ≡ b → (let r : Option SettleFault = cond b None (Some (settle.WrongNumber (course_of deeds).chunks number)) in r) ≡ None → MaySettle deeds number
      by true same e = record { cut = cut; frozen = frozen; last = sym (eqb-true (course_of deeds).chunks number same) }
      by false same e = cc

  may_settle : (number : ℕ) → settle_refusal v.frozen number ≡ None → MaySettle deeds number
  may_settle number e =
      let frozen : v.frozen ≡ frozen_by (course_of deeds) = ap (λ (x : ClientVolume). x.frozen) is_left ∙ (shown deeds (is.deeds volume)).frozen in
      may_by number (course_of deeds).cut refl (sym (ap (λ o. settle_refusal o number) frozen) ∙ e)

  -- what an answer that is taken leaves is its own
  abbrev pub IsTakenSo : Taking → Type 0
  IsTakenSo t = IsHistory header (journal_by (history ++ entries_on volume t.deeds)) → GoesOn header history volume t.deeds t.volume

  taken_as : (number : ℕ) (a : Answer) → MaySettle deeds number → IsTakenSo (taken number a v)
  taken_as number answer.Applied settles = goes_on (Settled number verdict.Applied) settles
  taken_as number (answer.Conflict n why) settles = goes_on (Settled number (verdict.Conflict n why)) settles
  taken_as number (answer.Behind last) settles = λ journal. stays
  taken_as number (answer.Old last) settles = λ journal. stays

  pub taken_so : (number : ℕ) (a : Answer) (t : Taking) → taking number a v ≡ Ok t → IsTakenSo t
  taken_so number a t e = by (settle_refusal v.frozen number) refl e
    where
      by : (o : Option SettleFault) → settle_refusal v.frozen number ≡ o → taken_unless o number a v ≡ Ok t → IsTakenSo t
      by (Some why) stops e = cc
      by None free e = (let same : taken number a v ≡ t = cc in subst IsTakenSo same (taken_as number a (may_settle number free)))

-- ---- a ruling

-- A replica's history goes on with these entries: it is one that the replica may have, and it leaves this.
pub record GoesOnAt (header : Header) (history : List ReplicaEntry) (entries : List ReplicaEntry) (left : ReplicaState) : Type 0 where
  pub lawful : IsReplicaHistory header (history ++ entries)
  pub leaves : replica_after_all (new_replica header.server header.number) (history ++ entries) ≡ left

module _ (header : Header) (history : List ReplicaEntry) (is : IsReplicaHistory header history) (client number : ℕ) (span : List Record) where
  abbrev r : ReplicaState
  r = replica_after_all (new_replica header.server header.number) history

  -- what a ruling leaves is its own
  abbrev pub IsRuledSo : Ruling → Type 0
  IsRuledSo ruled = IsReplicaJournal header (journal_at header.number (history ++ ruled.entries)) → GoesOnAt header history ruled.entries ruled.replica

  alone_push : (entry : ReplicaEntry) → In entry (history ++ Decided client number span ∷ []) → IsDecision entry
  alone_push entry i = elim (in_parts entry history (Decided client number span ∷ []) i) [
    | inl old ↦ is.alone entry old
    | inr (inl same) ↦ subst IsDecision (sym same) tt
    | inr (inr none) ↦ absurd none
  ]

  decided_so : is_next (r.lasts client) number ≡ true → IsRuledSo (decides client number span r)
  decided_so next journal = record {
    lawful = record {
      journal = journal;
      decisions = follow_push (MayDecide header.number) history (Decided client number span) is.decisions
          (eqb-true number ((r.lasts client).number + 1) next ∙ ap (λ (l : Last). l.number + 1) (lasts_are header.server header.number history client));
      alone = alone_push;
    };
    leaves = replica_push (new_replica header.server header.number) history (Decided client number span);
  }

  left_so : (answer : Answer) → IsRuledSo (record { answer = answer; entries = []; replica = r })
  left_so answer journal = record {
    lawful = subst (IsReplicaHistory header) (sym (append-nil history)) is;
    leaves = ap (replica_after_all (new_replica header.server header.number)) (append-nil history);
  }

  pub ruled_so : (ruled : Ruling) → ruling client number span r ≡ Ok ruled → IsRuledSo ruled
  ruled_so ruled e = by (is_next (r.lasts client) number) refl (nat_lt 4294967295 number) e
    where
      by : (next : Bool) → is_next (r.lasts client) number ≡ next → (full : Bool) → ruling_of next full client number span r ≡ Ok ruled → IsRuledSo ruled
      by true next true e = cc
      by true next false e = (let same : decides client number span r ≡ ruled = cc in subst IsRuledSo same (decided_so next))
      by false other full e =
          let kept : Ruling = record { answer = told (r.lasts client) number; entries = []; replica = r } in
          let same : kept ≡ ruled = cc in
          subst IsRuledSo same (left_so (told (r.lasts client) number))
