-- The next chunk of a client, from its entry to what is answered.
use Rattle.std.proofs.Common.{◌≡◌, ◌≢◌, ℕ, ◌+◌, ◌<◌, ◌≤◌, if◌then◌else◌, true, false, List, [], ◌∷◌, ◌++◌, length, Option, Ok, Err, refl, sym, ap, ◌∙◌, subst, inl, inr, arith}
use Rattle.std.specs.Prelude.{Some}
use Rattle.std.specs.FinMap as map
use Rattle.std.specs.Int.{w32}
use Rattle.std.proofs.lemmas.Bool.{eqb-true}
use Rattle.coda_fid.specs.declared.op.Record.{Record}
use Rattle.coda_tree.specs.Volume.{Nodes}
use Rattle.coda_certify.specs.Replay.{Replayed, replay}
use Rattle.coda_certify.specs.Verdicts.{verdict_of, nodes_left}
use Rattle.coda_certify.specs.declared.verdict.Verdict.{Verdict}
use Rattle.coda_certify.specs.declared.verdict.Verdict.TheVariants.{Applied}
use Rattle.coda_disk.specs.Told.{Told}
use Rattle.coda_journal.specs.Entries.{framed}
use Rattle.coda_journal.specs.Journal.{IsJournal}
use Rattle.coda_journal.specs.Open.{Stands}
use Rattle.coda_journal.specs.declared.header.Header.{Header}
use Rattle.coda_record.specs.Form.{four}
use Rattle.coda_record.specs.Spelling.{HasSpelling}
use Rattle.coda_record.specs.Table as table
use Rattle.coda_record.specs.declared.entry.ReplicaEntry.{ReplicaEntry}
use Rattle.coda_record.specs.declared.entry.ReplicaEntry.TheVariants.{Decide}
use Rattle.coda_record.specs.declared.last.Last.{Last}
use Rattle.coda_replica.specs.State.{ReplicaState, last_for, decided, put_back, with_last}
use Rattle.coda_replica.specs.Answers.{is_next, answer_of, answer_to, told as told_of}
use Rattle.coda_plain.specs.Decisions as plain
use Rattle.coda_record.specs.declared.answer.Answer.{Answer}
use Rattle.coda_replica.specs.History.{payload_of, payloads_of, state_of, MayFollow}
use Rattle.coda_replica.specs.Standing.{IsUp, StandsFor}
use Rattle.coda_replica.specs.Deciding.{decision_entry, Keeping, IsFullness, IsBack, IsFull, NextDeciding, Deciding, grown}
use Rattle.coda_replica.specs.declared.fault.ReplicaFault.{ReplicaFault}
use Rattle.coda_replica.specs.declared.fault.ReplicaFault.TheVariants.{Down, NotFound, JournalFull, DiskFault, Memory}
use Rattle.coda_replica.specs.declared.replica.Replica.{Replica}
use Rattle.coda_replica.proofs.Growing.{payloads_push, state_push, history_push, decision_spelled}
use Rattle.coda_replica.proofs.PutBack.{put_back_was}

-- ---- a conflict leaves the volume, and its last decision may be taken back

left_by_conflict : (nodes : Nodes) (r : Replayed) → verdict_of r ≢ Applied → nodes_left nodes r ≡ nodes
left_by_conflict nodes (Ok m) other = absurd (other refl)
left_by_conflict nodes (Err e) other = refl

pub taken_back : (r : ReplicaState) (client number : ℕ) (recs : List Record) (was : Option Last) → was ≡ map.get r.lasts client → verdict_of (replay r.tree.nodes client recs) ≢ Applied → with_last (decided r client number recs) client was ≡ r
taken_back r client number recs was is other =
    let last : Last = record { client = client; number = number; verdict = verdict_of (replay r.tree.nodes client recs) } in
    let lasts : put_back (map.insert r.lasts client last) client was ≡ r.lasts = put_back_was r.lasts client last was is in
    let nodes = left_by_conflict r.tree.nodes (replay r.tree.nodes client recs) other in
    λ i. record { server = r.server; tree = record { number = r.tree.number; nodes = nodes i }; lasts = lasts i }

module _ {D : Type 0} (told : D → Told) (header : Header) (old : Replica D) (history : List ReplicaEntry) (client number : ℕ) (recs : List Record) (up : IsUp told header old history)
    (is : HasSpelling table.client client) (are : HasSpelling (table.records four) recs) (next : is_next (last_for old.decider client) number ≡ true) (high : number ≤ 4294967295) where
  abbrev entry : ReplicaEntry
  entry = decision_entry old.decider client number recs

  follows : number ≡ (last_for (state_of header history) client).number + 1
  follows = eqb-true number ((last_for old.decider client).number + 1) next ∙ ap (λ (r : ReplicaState). (last_for r client).number + 1) up.state

  pub may_follow : MayFollow header history entry
  may_follow = subst (λ (r : ReplicaState). MayFollow header history (decision_entry r client number recs)) (sym up.state)
      ((follows, refl), decision_spelled header history client number recs up.lawful is are (omega (arith, follows)) high)

  -- the decision is kept
  pub grows : (new : Replica D) → new.down ≡ false → IsJournal told header new.journal (payloads_of history ++ payload_of entry ∷ []) → new.decider ≡ decided old.decider client number recs → IsUp told header new (history ++ entry ∷ [])
  grows new running journal state = record {
    up = running;
    journal = subst (IsJournal told header new.journal) (sym (payloads_push history entry)) journal;
    lawful = history_push header history entry up.lawful may_follow;
    state = state ∙ ap (λ (r : ReplicaState). decided r client number recs) up.state ∙ sym (state_push header history entry);
  }

  -- a call of the disk failed
  pub fails : (new : Told) → Stands new header (payloads_of history) (Some (payload_of entry)) → StandsFor new header history (Some entry)
  fails new stands = record { images = stands; lawful = up.lawful; next = may_follow }

  -- there is room for it
  abbrev Full : Type 0
  Full = IsFull old.journal number entry

  pub not_full : ¬ (old.journal.area < old.journal.used + length (framed w32 (payload_of entry))) → ¬ Full
  not_full room (inl big) = omega (arith, big, high)
  not_full room (inr full) = room full

  -- the chunk was decided so, and that isn't kept
  refused_so : (new : Replica D) (mid : ReplicaState) (was : Option Last) (e : ReplicaFault) → was ≡ map.get old.decider.lasts client → mid ≡ decided old.decider client number recs
      → Keeping {D = D} {T = Unit {0}} told header old.journal (payloads_of history) (payload_of entry) new (Err e) → IsFullness {D = D} {T = Unit {0}} old.journal entry (Err e)
      → IsBack {T = Unit {0}} mid client was (verdict_of (replay old.decider.tree.nodes client recs)) new.decider (Err e) → NextDeciding told header old history client number recs new (Err e)
  refused_so new mid was Down was_is mid_is k f b = absurd k.answers
  refused_so new mid was NotFound was_is mid_is k f b = absurd k.answers
  refused_so new mid was JournalFull was_is mid_is k f b = record {
    any_moment = k.any_moment;
    answers = (inr f, (k.answers.1, b.1 ∙ ap (λ (r : ReplicaState). with_last r client was) mid_is ∙ taken_back old.decider client number recs was was_is b.0, k.answers.0 ∙ sym up.up));
  }
  refused_so new mid was DiskFault was_is mid_is k f b = record { any_moment = k.any_moment; answers = (not_full f, k.answers.0, fails (told new.journal.disk) k.answers.1) }
  refused_so new mid was Memory was_is mid_is k f b = record {
    any_moment = k.any_moment;
    answers = (k.answers.1, b.1 ∙ ap (λ (r : ReplicaState). with_last r client was) mid_is ∙ taken_back old.decider client number recs was was_is b.0, k.answers.0 ∙ sym up.up);
  }

  pub next_refused : (new : Replica D) (mid : ReplicaState) (was : Option Last) (verdict : Verdict) (e : ReplicaFault) → verdict ≡ verdict_of (replay old.decider.tree.nodes client recs) → was ≡ map.get old.decider.lasts client
      → mid ≡ decided old.decider client number recs → Keeping {D = D} {T = Unit {0}} told header old.journal (payloads_of history) (payload_of (Decide client number recs verdict)) new (Err e)
      → IsFullness {D = D} {T = Unit {0}} old.journal (Decide client number recs verdict) (Err e) → IsBack {T = Unit {0}} mid client was verdict new.decider (Err e) → NextDeciding told header old history client number recs new (Err e)
  next_refused new mid was verdict e verdict_is was_is mid_is =
      subst (λ (v : Verdict). Keeping {D = D} {T = Unit {0}} told header old.journal (payloads_of history) (payload_of (Decide client number recs v)) new (Err e)
      → IsFullness {D = D} {T = Unit {0}} old.journal (Decide client number recs v) (Err e) → IsBack {T = Unit {0}} mid client was v new.decider (Err e) → NextDeciding told header old history client number recs new (Err e)) (sym verdict_is)
      (refused_so new mid was e was_is mid_is)

  pub next_kept : (new : Replica D) (verdict : Verdict) (x : Unit {0}) → verdict ≡ verdict_of (replay old.decider.tree.nodes client recs) → new.decider ≡ decided old.decider client number recs
      → Keeping {D = D} {T = Unit {0}} told header old.journal (payloads_of history) (payload_of (Decide client number recs verdict)) new (Ok x)
      → IsFullness {D = D} {T = Unit {0}} old.journal (Decide client number recs verdict) (Ok x) → NextDeciding told header old history client number recs new (Ok verdict)
  next_kept new verdict x verdict_is decider_is =
      subst (λ (v : Verdict). Keeping {D = D} {T = Unit {0}} told header old.journal (payloads_of history) (payload_of (Decide client number recs v)) new (Ok x)
      → IsFullness {D = D} {T = Unit {0}} old.journal (Decide client number recs v) (Ok x) → NextDeciding told header old history client number recs new (Ok v)) (sym verdict_is)
      (λ k f. record { any_moment = k.any_moment; answers = (refl, not_full f, grows new k.answers.0 k.answers.1 decider_is) })

-- the answer to a chunk that was decided
pub next_decided : {D : Type 0} (told : D → Told) (header : Header) (old : Replica D) (history : List ReplicaEntry) (client number : ℕ) (recs : List Record) → IsUp told header old history → is_next (last_for old.decider client) number ≡ true
    → (new : Replica D) (verdict : Verdict) (answer : Answer) → answer ≡ answer_of verdict → NextDeciding told header old history client number recs new (Ok verdict) → Deciding told header old history client number recs new (Ok answer)
next_decided told header old history client number recs up next new verdict answer answer_is n = record {
  any_moment = n.any_moment;
  answers = (
    answer_is ∙ ap answer_of n.answers.0 ∙ sym (answers_next (last_for old.decider client) number (verdict_of (replay old.decider.tree.nodes client recs)) next),
    λ _. n.answers.1,
    subst (IsUp told header new) (sym grown_is) n.answers.2,
  );
}
  where
    answers_next : (last : plain.Last) (n : ℕ) (v : Verdict) → is_next last n ≡ true → answer_to last n v ≡ answer_of v
    answers_next last n v is = ap (λ b. if b then answer_of v else told_of last n) is

    grown_is : grown header history client number recs ≡ history ++ decision_entry old.decider client number recs ∷ []
    grown_is =
        let next_there : is_next (last_for (state_of header history) client) number ≡ true = ap (λ (r : ReplicaState). is_next (last_for r client) number) (sym up.state) ∙ next in
        ap (λ b. if b then history ++ decision_entry (state_of header history) client number recs ∷ [] else history) next_there
        ∙ ap (λ (r : ReplicaState). history ++ decision_entry r client number recs ∷ []) (sym up.state)
