-- What a client and a replica come to, from what the calls of a log leave.
use Rattle.std.proofs.Common.{◌≡◌, ℕ, true, cond, List, sym, ap, ◌∙◌, inl, inr}
use Rattle.std.specs.Prelude.{◌≤◌}
use Rattle.std.specs.FinMap as map
use Rattle.std.specs.Ordering.{nat_cmp}
use Rattle.std.proofs.lemmas.Bool.{eq-eqb, ne_eqb, cases_eq}
use Rattle.coda_fid.specs.Fid.{root_of}
use Rattle.coda_fid.specs.declared.op.Record.{Record}
use Rattle.coda_tree.specs.Volume.{IsVolume}
use Rattle.coda_certify.specs.declared.verdict.Verdict.{Verdict}
use Rattle.coda_certify.specs.Replay.{replay}
use Rattle.coda_certify.specs.Verdicts.{verdict_of, nodes_left}
use Rattle.coda_cml.specs.State.{LogState, IsLogOf}
use Rattle.coda_record.specs.declared.answer.Answer.{Answer}
use Rattle.coda_record.specs.declared.last.Last.{Last}
use Rattle.coda_replica.specs.Answers.{is_next, answer_to, after_chunk}
use Rattle.coda_replica.specs.State.{ReplicaState as Replica, new_replica, number_and_verdict, last_for, decided}
use Rattle.coda_replica.proofs.PutBack.{put_there, put_elsewhere}
use Rattle.coda_plain.specs.Decisions as plain
use Rattle.coda_plain.specs.Decisions.{Decided, with_last, sent_of, decision}
use Rattle.coda_plain.proofs.Volumes.{sent_decides}
use Rattle.coda_cell.specs.State.{ClientVolume, pending, log_of, with_nodes, new_replica as new_state, replica_after}
use Rattle.coda_cell.specs.Sending.{Freezing}
use Rattle.coda_cell.specs.State.{replica_state}

-- a log is told by its runs, its chunk's number and its counts
pub log_is : (v : ClientVolume) (log : LogState) → IsLogOf log v.front v.back → log.frozen ≡ v.frozen → log.last ≡ v.operations → log.chunks ≡ v.chunks → log ≡ log_of v
log_is v log is frozen last chunks = λ i. record { frozen = frozen i; chunk = is.chunk i; chunk_segments = is.chunk_segments i; records = is.records i; segments = is.segments i; last = last i; chunks = chunks i }

-- what a freezing is of: its operations are in front, and what is pending stays
pub record IsFreezing (server : ℕ) (v : ClientVolume) (f : Freezing) : Type 0 where
  pub front : f.volume.front ≡ f.span
  pub pending_is : pending f.volume ≡ pending v

-- the last decision of a client, behind a decision
last_put : (r : Replica) (client number : ℕ) (recs : List Record) (verdict : Verdict) (q : ℕ) → verdict ≡ verdict_of (replay r.tree.nodes client recs)
    → last_for (decided r client number recs) q ≡ with_last (λ c. last_for r c) client (record { number = number; verdict = verdict }) q
last_put r client number recs verdict q is =
    let kept : Last = record { client = client; number = number; verdict = verdict_of (replay r.tree.nodes client recs) } in
    let new : plain.Last = record { number = number; verdict = verdict } in
    elim (cases_eq q client) [
      | inl same ↦ ap (λ x. number_and_verdict (map.get (map.insert r.lasts client kept) x)) same ∙ ap number_and_verdict (put_there r.lasts client kept)
          ∙ (λ i. record { number = number; verdict = sym is i }) ∙ sym (ap (λ b. cond b new (last_for r q)) (eq-eqb q client same))
      | inr other ↦ ap number_and_verdict (put_elsewhere r.lasts client kept q other) ∙ sym (ap (λ b. cond b new (last_for r q)) (ne_eqb q client other))
    ]

-- the records that were sent decide what their operations decide
pub decided_is : (r : Replica) (client number : ℕ) (recs span : List Record) → IsVolume (root_of r.tree.number) r.tree.nodes → recs ≡ sent_of span → replica_state (decided r client number recs) ≡ replica_after (replica_state r) (Decided client number span)
decided_is r client number recs span volume sent =
    let same : replay r.tree.nodes client recs ≡ decision r.tree.nodes client span = ap (replay r.tree.nodes client) sent ∙ sym (sent_decides (root_of r.tree.number) r.tree.nodes client span volume) in
    λ i. record {
      server = r.server;
      tree = with_nodes r.tree (nodes_left r.tree.nodes (same i));
      lasts = λ q. last_put r client number recs (verdict_of (decision r.tree.nodes client span)) q (ap verdict_of (sym same)) i;
    }

-- what a replica rules, by what its call answers and leaves
module _ (r new : Replica) (client number : ℕ) (recs span : List Record) (answer : Answer) (volume : IsVolume (root_of r.tree.number) r.tree.nodes) (sent : recs ≡ sent_of span)
    (answer_is : answer ≡ answer_to (last_for r client) number (verdict_of (replay r.tree.nodes client recs))) (new_is : new ≡ after_chunk r client number recs) (room : is_next (last_for r client) number ≡ true → number ≤ 4294967295) where
  same : verdict_of (replay r.tree.nodes client recs) ≡ verdict_of (decision r.tree.nodes client span)
  same = ap (λ l. verdict_of (replay r.tree.nodes client l)) sent ∙ sym (ap verdict_of (sent_decides (root_of r.tree.number) r.tree.nodes client span volume))

-- a replica that was just made
pub new_is : (volume server : ℕ) → replica_state (new_replica volume server) ≡ new_state server volume
new_is volume server = λ i. record (new_state server volume) { lasts = λ client. number_and_verdict (map.get-empty nat_cmp client i) }
