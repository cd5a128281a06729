-- How a replica's ruling on a chunk ends, by what its disk keeps.
use Rattle.std.proofs.Common.{◌≡◌, ◌<◌, ◌+◌, ℕ, Bool, true, false, cond, List, [], ◌∷◌, ◌++◌, append-nil, length, Some, Result, Ok, Err, refl, sym, ap, ◌∙◌, subst, inl, inr, ◌⊎◌}
use Rattle.std.specs.Prelude.{nat_lt}
use Rattle.std.specs.Int.{w32}
use Rattle.std.proofs.lemmas.Bool.{lt-ltb, ltb-true, cases_Bool}
use Rattle.coda_certify.specs.Replay.{replay}
use Rattle.coda_certify.specs.Verdicts.{verdict_of}
use Rattle.coda_disk.specs.Told.{Told}
use Rattle.coda_fid.specs.declared.op.Record.{Record}
use Rattle.coda_journal.specs.Entries.{blocks, framed}
use Rattle.coda_journal.specs.Journal.{IsJournal}
use Rattle.coda_journal.specs.declared.header.Header.{Header}
use Rattle.coda_journal.specs.declared.journal.Journal.{Journal}
use Rattle.coda_plain.specs.Decisions.{ReplicaEntry, Decided, Last, sent_of, decision, nodes_of}
use Rattle.coda_plain.proofs.Lists.{told_push}
use Rattle.coda_plain.proofs.Volumes.{sent_decides}
use Rattle.coda_record.specs.declared.answer.Answer.{Answer}
use Rattle.coda_record.specs.declared.entry.ReplicaEntry.{ReplicaEntry as KeptEntry}
use Rattle.coda_record.specs.declared.entry.ReplicaEntry.TheVariants as kept
use Rattle.coda_replica.specs.Answers.{answer_of, is_next, told}
use Rattle.coda_replica.specs.Deciding.{IsFull, decision_entry, grown, DecideAnswers}
use Rattle.coda_replica.specs.History.{payload_of, payloads_of, state_of}
use Rattle.coda_replica.specs.Standing.{IsUp, StandsFor, IsAsBefore}
use Rattle.coda_replica.specs.State.{ReplicaState as KeptState, last_for}
use Rattle.coda_replica.specs.declared.fault.ReplicaFault.{ReplicaFault}
use Rattle.coda_replica.specs.declared.fault.ReplicaFault.TheVariants as fault
use Rattle.coda_replica.specs.declared.replica.Replica.{Replica}
use Rattle.coda_cell.specs.State.{replica_state}
use Rattle.coda_cell.specs.Sending.{Ruling, decides, ruling_of, ruling}
use Rattle.coda_cell.specs.State.{ReplicaState, new_replica, replica_after_all}
use Rattle.coda_cell.specs.Refused as refused
use Rattle.coda_cell.proofs.Histories.{nodes_are}
use Rattle.coda_matching.specs.Replicas.{entry_at, journal_at, IsReplicaHistory, LacksRoom, Adds, RulingEnds}
use Rattle.coda_matching.proofs.Replicas.{volume_left, journals_leave_replicas}

module _ {D : Type 0} (told_of : D → Told) (header : Header) (history : List ReplicaEntry) (client number : ℕ) (recs span : List Record) (old new : Replica D) (up : IsUp told_of header old (journal_at header.number history)) (is : IsReplicaHistory header history) (sent : recs ≡ sent_of span) where
  -- what the history leaves, and what the journal leaves
  abbrev r : ReplicaState
  r = replica_after_all (new_replica header.server header.number) history

  abbrev k : KeptState
  k = state_of header (journal_at header.number history)

  same : replica_state k ≡ r
  same = journals_leave_replicas header history is

  last_is : last_for old.decider client ≡ r.lasts client
  last_is = ap (λ (x : KeptState). last_for x client) up.state ∙ ap (λ (x : ReplicaState). x.lasts client) same

  -- the records that were sent are decided as their operations are
  sent_is : replay k.tree.nodes client recs ≡ decision r.tree.nodes client span
  sent_is =
      ap (replay k.tree.nodes client) sent ∙ sym (sent_decides _ k.tree.nodes client span (volume_left header history is.decisions same))
      ∙ ap (λ (x : ReplicaState). decision x.tree.nodes client span) same

  verdict_is : verdict_of (replay old.decider.tree.nodes client recs) ≡ verdict_of (decision r.tree.nodes client span)
  verdict_is = ap (λ (x : KeptState). verdict_of (replay x.tree.nodes client recs)) up.state ∙ ap verdict_of sent_is

  abbrev entry : ReplicaEntry
  entry = Decided client number span

  abbrev written : KeptEntry
  written = kept.Decide client number (sent_of span) (verdict_of (decision (nodes_of header.number history) client span))

  -- the decision as it is written
  written_is : decision_entry k client number recs ≡ written
  written_is = λ i. kept.Decide client number (sent i) ((ap verdict_of sent_is ∙ ap (λ m. verdict_of (decision m client span)) (nodes_are header.server header.number history)) i)

  written_now : decision_entry old.decider client number recs ≡ written
  written_now = ap (λ (x : KeptState). decision_entry x client number recs) up.state ∙ written_is

  abbrev ruled : Ruling
  ruled = decides client number span r

  abbrev adds : Adds header history ruled
  adds = record { entry = entry; kept = written; is = refl; adds = refl }

  journal_push : journal_at header.number (history ++ entry ∷ []) ≡ journal_at header.number history ++ written ∷ []
  journal_push = told_push (entry_at header.number) history entry

  lacks : old.journal.area < old.journal.used + length (framed w32 (payload_of (decision_entry old.decider client number recs))) → LacksRoom header history written
  lacks full =
      let there : old.journal.area < old.journal.used + length (framed w32 (payload_of written)) = subst (λ (e : KeptEntry). old.journal.area < old.journal.used + length (framed w32 (payload_of e))) written_now full in
      let need = length (framed w32 (payload_of written)) in
      subst (λ area. area < length (blocks w32 (payloads_of (journal_at header.number history))) + need) up.journal.size (subst (λ used. old.journal.area < used + need) up.journal.counts there)

  as_before : IsAsBefore old new → IsUp told_of header new (journal_at header.number history)
  as_before before = record {
    up = before.2 ∙ up.up;
    journal = subst (λ (j : Journal D). IsJournal told_of header j (payloads_of (journal_at header.number history))) (sym before.0) up.journal;
    lawful = up.lawful;
    state = before.1 ∙ up.state;
  }

  -- the next chunk is decided, where no client has so many
  next_is : is_next (last_for old.decider client) number ≡ true → is_next (r.lasts client) number ≡ true
  next_is next = ap (λ (l : Last). is_next l number) (sym last_is) ∙ next

  wanted_next : is_next (last_for old.decider client) number ≡ true → (full : Bool) → nat_lt 4294967295 number ≡ full → ruling client number span r ≡ ruling_of true full client number span r
  wanted_next next full size = ap (λ b. ruling_of b (nat_lt 4294967295 number) client number span r) (next_is next) ∙ ap (λ b. ruling_of true b client number span r) size

  wanted_few : is_next (last_for old.decider client) number ≡ true → ¬ (4294967295 < number) → ruling client number span r ≡ Ok ruled
  wanted_few next few = by (nat_lt 4294967295 number) refl
    where
      by : (full : Bool) → nat_lt 4294967295 number ≡ full → ruling client number span r ≡ Ok ruled
      by true size = absurd (few (ltb-true 4294967295 number size))
      by false size = wanted_next next false size

  wanted_other : is_next (last_for old.decider client) number ≡ false → ruling client number span r ≡ Ok (record { answer = told (r.lasts client) number; entries = []; replica = r })
  wanted_other other = ap (λ b. ruling_of b (nat_lt 4294967295 number) client number span r) (ap (λ (l : Last). is_next l number) (sym last_is) ∙ other)

  -- ---- the answer

  grown_next : is_next (last_for old.decider client) number ≡ true → grown header (journal_at header.number history) client number recs ≡ journal_at header.number (history ++ entry ∷ [])
  grown_next next =
      ap (λ b. cond b (journal_at header.number history ++ decision_entry k client number recs ∷ []) (journal_at header.number history)) (ap (λ (x : KeptState). is_next (last_for x client) number) (sym up.state) ∙ next)
      ∙ ap (λ e. journal_at header.number history ++ e ∷ []) written_is ∙ sym journal_push

  grown_other : is_next (last_for old.decider client) number ≡ false → grown header (journal_at header.number history) client number recs ≡ journal_at header.number (history ++ [])
  grown_other other =
      ap (λ b. cond b (journal_at header.number history ++ decision_entry k client number recs ∷ []) (journal_at header.number history)) (ap (λ (x : KeptState). is_next (last_for x client) number) (sym up.state) ∙ other)
      ∙ ap (journal_at header.number) (sym (append-nil history))

  answered : (answer : Answer) → DecideAnswers told_of header old (journal_at header.number history) client number recs new (Ok answer) → RulingEnds told_of header history (ruling client number span r) new (Ok answer)
  answered answer (is_answer, room, up_now) = elim (cases_Bool (is_next (last_for old.decider client) number)) [
    | inl next ↦ (
      ruled,
      wanted_few next (λ many. room next (inl many)),
      is_answer ∙ ap (λ b. cond b (answer_of (verdict_of (replay old.decider.tree.nodes client recs))) (told (last_for old.decider client) number)) next ∙ ap answer_of verdict_is,
      subst (IsUp told_of header new) (grown_next next) up_now,
    )
    | inr other ↦ (
      record { answer = told (r.lasts client) number; entries = []; replica = r },
      wanted_other other,
      is_answer ∙ ap (λ b. cond b (answer_of (verdict_of (replay old.decider.tree.nodes client recs))) (told (last_for old.decider client) number)) other ∙ ap (λ l. told l number) last_is,
      subst (IsUp told_of header new) (grown_other other) up_now,
    )
  ]

  -- no client has so many chunks, or there is no room
  unkept : is_next (last_for old.decider client) number ≡ true → IsFull old.journal number (decision_entry old.decider client number recs)
      → (ruling client number span r ≡ Err refused.JournalFull) ⊎ ((ruling_is : Ruling) × (ruling client number span r ≡ Ok ruling_is) × (a : Adds header history ruling_is) × LacksRoom header history a.kept)
  unkept next full = by (nat_lt 4294967295 number) refl full
    where
      by : (many : Bool) → nat_lt 4294967295 number ≡ many → IsFull old.journal number (decision_entry old.decider client number recs)
          → (ruling client number span r ≡ Err refused.JournalFull) ⊎ ((ruling_is : Ruling) × (ruling client number span r ≡ Ok ruling_is) × (a : Adds header history ruling_is) × LacksRoom header history a.kept)
      by true size full = inl (wanted_next next true size)
      by false size (inl many) = absurd (let low : true ≡ false = sym (lt-ltb 4294967295 number many) ∙ size in cc)
      by false size (inr room) = inr (ruled, wanted_next next false size, adds, lacks room)

  failed : is_next (last_for old.decider client) number ≡ true → ¬ IsFull old.journal number (decision_entry old.decider client number recs) → new.down ≡ true
      → StandsFor (told_of new.journal.disk) header (journal_at header.number history) (Some (decision_entry old.decider client number recs)) → RulingEnds told_of header history (ruling client number span r) new (Err fault.DiskFault)
  failed next room down stands = (
    ruled,
    wanted_few next (λ many. room (inl many)),
    adds,
    down,
    subst (λ e. StandsFor (told_of new.journal.disk) header (journal_at header.number history) (Some e)) written_now stands,
  )

  pub ruling_ends : (result : Result Answer ReplicaFault) → DecideAnswers told_of header old (journal_at header.number history) client number recs new result → RulingEnds told_of header history (ruling client number span r) new result
  ruling_ends (Ok answer) does = answered answer does
  ruling_ends (Err fault.JournalFull) does = (unkept does.0 does.1, as_before does.2)
  ruling_ends (Err fault.Memory) does = as_before does.1
  ruling_ends (Err fault.DiskFault) does = failed does.0 does.1 does.2 does.3
  ruling_ends (Err fault.Down) does = absurd does
  ruling_ends (Err fault.NotFound) does = absurd does
