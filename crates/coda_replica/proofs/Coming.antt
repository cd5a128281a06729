-- A chunk that is decided grows the history that the replica is of.
use Rattle.std.proofs.Common.{◌≡◌, ℕ, ◌+◌, true, List, sym, ap, ◌∙◌, subst, inl, inr}
use Rattle.std.proofs.lemmas.Bool.{eqb-true, cases_eq}
use Rattle.coda_fid.specs.Fid.{root_of}
use Rattle.coda_fid.specs.declared.op.Record.{Record}
use Rattle.coda_tree.specs.Volume.{Nodes, IsVolume}
use Rattle.coda_certify.specs.Replay.{Replayed, replay}
use Rattle.coda_certify.specs.Verdicts.{verdict_of, nodes_left}
use Rattle.coda_plain.specs.Decisions as plain
use Rattle.coda_plain.specs.Decisions.{ReplicaEntry, Kept, nodes_of, last_of, decision, sent_of}
use Rattle.coda_plain.proofs.AtReplicas.{kept_push}
use Rattle.coda_plain.proofs.Volumes.{sent_decides}
use Rattle.coda_record.specs.declared.answer.Answer.{Answer}
use Rattle.coda_record.specs.declared.last.Last.{Last}
use Rattle.coda_replica.specs.State.{ReplicaState, number_and_verdict, last_for, decided}
use Rattle.coda_replica.specs.Answers.{is_next, answer_of}
use Rattle.coda_replica.specs.Comes.{Chunk, IsNext, IsReplicaOf, history_after, Comes}
use Rattle.coda_replica.proofs.PutBack.{put_there, put_elsewhere}
use Rattle.coda_replica.proofs.Repeats.{entry_of, cases_next, last_next, last_stays, next_is}

module _ (r : ReplicaState) (past : List ReplicaEntry) (chunk : Chunk) (recs : List Record) (volume : IsVolume (root_of r.tree.number) r.tree.nodes) (is : IsReplicaOf past r) (sent : recs ≡ sent_of chunk.span)
    (next : IsNext r.tree.number past chunk) where
  -- the records sent decide what the operations decide
  same : replay r.tree.nodes chunk.client recs ≡ decision (nodes_of r.tree.number past) chunk.client chunk.span
  same =
      ap (replay r.tree.nodes chunk.client) sent ∙ sym (sent_decides (root_of r.tree.number) r.tree.nodes chunk.client chunk.span volume)
      ∙ ap (λ (m : Nodes). decision m chunk.client chunk.span) is.nodes

  nodes_after : nodes_left r.tree.nodes (replay r.tree.nodes chunk.client recs) ≡ nodes_of r.tree.number (history_after r.tree.number past chunk)
  nodes_after = elim (cases_next r.tree.number past chunk) [
    | inl grows ↦
        ap (nodes_left r.tree.nodes) same ∙ ap (λ (m : Nodes). nodes_left m (decision (nodes_of r.tree.number past) chunk.client chunk.span)) is.nodes
        ∙ sym (ap (nodes_of r.tree.number) grows.1 ∙ ap (λ (k : Kept). k.nodes) (kept_push r.tree.number past (entry_of chunk)))
    | inr stays ↦ absurd (stays.0 next)
  ]

  abbrev kept_now : Last
  kept_now = record { client = chunk.client; number = chunk.number; verdict = verdict_of (replay r.tree.nodes chunk.client recs) }

  last_here : last_for (decided r chunk.client chunk.number recs) chunk.client ≡ last_of r.tree.number (history_after r.tree.number past chunk) chunk.client
  last_here =
      ap number_and_verdict (put_there r.lasts chunk.client kept_now) ∙ ap (λ (d : Replayed). let l : plain.Last = record { number = chunk.number; verdict = verdict_of d } in l) same
      ∙ sym (last_next r.tree.number past chunk next)

  lasts_after : (q : ℕ) → last_for (decided r chunk.client chunk.number recs) q ≡ last_of r.tree.number (history_after r.tree.number past chunk) q
  lasts_after q = elim (cases_eq q chunk.client) [
    | inl here ↦ subst (λ x. last_for (decided r chunk.client chunk.number recs) x ≡ last_of r.tree.number (history_after r.tree.number past chunk) x) (sym here) last_here
    | inr other ↦ ap number_and_verdict (put_elsewhere r.lasts chunk.client kept_now q other) ∙ is.lasts q ∙ sym (last_stays r.tree.number past q chunk (λ e. absurd (other (sym e))))
  ]

-- a chunk that is decided
pub decided_comes : (r : ReplicaState) (past : List ReplicaEntry) (chunk : Chunk) (recs : List Record) (answer : Answer) (new : ReplicaState)
    → IsVolume (root_of r.tree.number) r.tree.nodes → IsReplicaOf past r → recs ≡ sent_of chunk.span → is_next (last_for r chunk.client) chunk.number ≡ true
    → new ≡ decided r chunk.client chunk.number recs → answer ≡ answer_of (verdict_of (replay r.tree.nodes chunk.client recs)) → Comes past chunk r new answer
decided_comes r past chunk recs answer new volume is sent follows new_is answer_is =
    let next : IsNext r.tree.number past chunk = eqb-true chunk.number ((last_for r chunk.client).number + 1) follows ∙ ap (λ (l : plain.Last). l.number + 1) (is.lasts chunk.client) in
    subst (λ (n : ReplicaState). Comes past chunk r n answer) (sym new_is) (record {
      answers = answer_is ∙ ap (λ (d : Replayed). answer_of (verdict_of d)) (same r past chunk recs volume is sent next) ∙ sym (next_is (last_of r.tree.number past chunk.client) chunk.number _ next);
      leaves = record { nodes = nodes_after r past chunk recs volume is sent next; lasts = lasts_after r past chunk recs volume is sent next };
    })
