-- What a replica's history in a cell leaves, and what its journal leaves.
use Rattle.std.proofs.Common.{◌≡◌, ℕ, List, [], ◌∷◌, ◌++◌, refl, sym, ap, ◌∙◌, subst, inl}
use Rattle.coda_fid.specs.Fid.{root_of}
use Rattle.coda_fid.specs.declared.op.Record.{Record}
use Rattle.coda_tree.specs.Volume.{IsVolume}
use Rattle.coda_journal.specs.declared.header.Header.{Header}
use Rattle.coda_plain.specs.Histories.{In}
use Rattle.coda_plain.specs.Decisions.{ReplicaEntry, Decided, Resolved, sent_of, nodes_of, MayDecide, AreDecisions}
use Rattle.coda_plain.proofs.Lists.{left_push, told_push, follow_push, along, in_left, in_right}
use Rattle.coda_plain.proofs.Volumes.{volumes}
use Rattle.coda_replica.specs.State.{ReplicaState as KeptState, new_replica as new_kept}
use Rattle.coda_replica.specs.History.{state_of, state_after}
use Rattle.coda_cell.specs.State.{replica_state}
use Rattle.coda_cell.specs.State.{ReplicaState, new_replica, replica_after, replica_after_all}
use Rattle.coda_cell.proofs.Drains.{decided_is, new_is}
use Rattle.coda_cell.proofs.Histories.{replica_push, nodes_are}
use Rattle.coda_matching.specs.Replicas.{entry_at, journal_at, IsDecision, IsReplicaHistory}
use Rattle.coda_matching.specs.Laws.{JournalsLeaveReplicas}

-- the number of a replica's volume stays
number_after : (r : ReplicaState) (entry : ReplicaEntry) → (replica_after r entry).tree.number ≡ r.tree.number
number_after r (Decided client number span) = refl
number_after r (Resolved nodes lasts) = refl

number_stays : (r : ReplicaState) (entries : List ReplicaEntry) → (replica_after_all r entries).tree.number ≡ r.tree.number
number_stays r [] = refl
number_stays r (entry ∷ entries) = number_stays (replica_after r entry) entries ∙ number_after r entry

module _ (header : Header) where
  -- what a history leaves, and what a journal leaves
  abbrev left : List ReplicaEntry → ReplicaState
  left history = replica_after_all (new_replica header.server header.number) history

  abbrev kept : List ReplicaEntry → KeptState
  kept history = state_of header (journal_at header.number history)

  abbrev AreAlone : List ReplicaEntry → Type 0
  AreAlone history = (entry : ReplicaEntry) → In entry history → IsDecision entry

  -- the replica has a volume
  pub volume_left : (past : List ReplicaEntry) → AreDecisions header.number past → replica_state (kept past) ≡ left past → IsVolume (root_of (kept past).tree.number) (kept past).tree.nodes
  volume_left past law same =
      let number : (kept past).tree.number ≡ header.number = ap (λ (r : ReplicaState). r.tree.number) same ∙ number_stays (new_replica header.server header.number) past in
      let nodes : (kept past).tree.nodes ≡ nodes_of header.number past = ap (λ (r : ReplicaState). r.tree.nodes) same ∙ nodes_are header.server header.number past in
      subst (λ n. IsVolume (root_of n) (kept past).tree.nodes) (sym number) (subst (IsVolume (root_of header.number)) (sym nodes) (volumes header.number past law).0)

  decided_push : (past : List ReplicaEntry) (client number : ℕ) (span : List Record) → AreDecisions header.number past → replica_state (kept past) ≡ left past
      → replica_state (kept (past ++ Decided client number span ∷ [])) ≡ left (past ++ Decided client number span ∷ [])
  decided_push past client number span law same =
      let entry : ReplicaEntry = Decided client number span in
      ap (λ l. replica_state (state_of header l)) (told_push (entry_at header.number) past entry)
      ∙ ap replica_state (left_push state_after (new_kept header.number header.server) (journal_at header.number past) _)
      ∙ decided_is (kept past) client number (sent_of span) span (volume_left past law same) refl
      ∙ ap (λ (r : ReplicaState). replica_after r entry) same
      ∙ sym (replica_push (new_replica header.server header.number) past entry)

  abbrev Alike : List ReplicaEntry → Type 0
  Alike past = AreDecisions header.number past × (AreAlone past → replica_state (kept past) ≡ left past)

  entry_push : (past : List ReplicaEntry) (entry : ReplicaEntry) → IsDecision entry → AreDecisions header.number past → replica_state (kept past) ≡ left past → replica_state (kept (past ++ entry ∷ [])) ≡ left (past ++ entry ∷ [])
  entry_push past (Decided client number span) is law same = decided_push past client number span law same
  entry_push past (Resolved nodes lasts) is law same = absurd is

  alike_push : (past : List ReplicaEntry) (entry : ReplicaEntry) → Alike past → MayDecide header.number past entry → Alike (past ++ entry ∷ [])
  alike_push past entry a may = (
    follow_push (MayDecide header.number) past entry a.0 may,
    λ alone. entry_push past entry (alone entry (in_right entry past (entry ∷ []) (inl refl))) a.0 (a.1 (λ e i. alone e (in_left e past (entry ∷ []) i))),
  )

  pub alike : (history : List ReplicaEntry) → IsReplicaHistory header history → replica_state (kept history) ≡ left history
  alike history is = (along (MayDecide header.number) Alike alike_push history (tt, λ alone. new_is header.number header.server) is.decisions).1 is.alone

pub journals_leave_replicas : JournalsLeaveReplicas
journals_leave_replicas header history is = alike header history is
