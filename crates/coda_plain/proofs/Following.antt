-- What an actor's own entry leaves it: a client that freezes has its chunk frozen, and a replica that decides keeps its verdict.
use Rattle.std.proofs.Common.{◌≡◌, ℕ, ◌+◌, ◌==◌, ◌&&◌, true, cond, List, [], ◌∷◌, ◌++◌, refl, sym, ap, ◌∙◌, arith}
use Rattle.std.proofs.lemmas.Bool.{eq-eqb}
use Rattle.coda_fid.specs.declared.op.Record.{Record}
use Rattle.coda_certify.specs.Verdicts.{verdict_of}
use Rattle.coda_plain.specs.Deeds.{Froze, Course, course_of}
use Rattle.coda_plain.specs.Decisions.{ReplicaEntry, Decided, Last, decision, Kept, nodes_of, last_of}
use Rattle.coda_plain.specs.Cell.{ClientEntry, Did, deeds_of, Actor, PlainCell}
use Rattle.coda_plain.specs.Moves.{AtClient, AtReplica, Does, with_client, with_replica, grown, after, done_on, IsFrozenFor, IsKeptBy}
use Rattle.coda_plain.proofs.Chunking.{course_push}
use Rattle.coda_plain.proofs.Places.{deeds_push}
use Rattle.coda_plain.proofs.AtReplicas.{kept_push}

pub client_here : (cell : PlainCell) (client : ℕ) (next : Actor ClientEntry) → (with_client cell client next).clients client ≡ next
client_here cell client next = ap (λ b. cond b next (cell.clients client)) (eq-eqb client client refl)

pub replica_here : (cell : PlainCell) (server volume : ℕ) (next : Actor ReplicaEntry) → (with_replica cell server volume next).replicas server volume ≡ next
replica_here cell server volume next = ap (λ b. cond (b && (volume == volume)) next (cell.replicas server volume)) (eq-eqb server server refl) ∙ ap (λ b. cond (true && b) next (cell.replicas server volume)) (eq-eqb volume volume refl)

pub frozen_now : (cell : PlainCell) (client volume server last number : ℕ) → (cell.clients client).up ≡ true
    → IsFrozenFor (after cell (Does (AtClient client (Did volume (Froze number server last))))) client server volume number
frozen_now cell client volume server last number up =
    let deed = Froze number server last in
    let entry : ClientEntry = Did volume deed in
    let here = client_here cell client (grown entry (cell.clients client)) in
    let history = (cell.clients client).history in
    let deeds : done_on (after cell (Does (AtClient client entry))) client volume ≡ deeds_of volume history ++ deed ∷ [] =
    ap (λ (a : Actor ClientEntry). deeds_of volume a.history) here ∙ deeds_push volume history entry ∙ ap (λ b. deeds_of volume history ++ cond b (deed ∷ []) []) (eq-eqb volume volume refl) in
    let course = ap course_of deeds ∙ course_push (deeds_of volume history) deed in
    record {
      up = ap (λ (a : Actor ClientEntry). a.up) here ∙ up;
      cut = record { home = server; last = last };
      frozen = ap (λ (c : Course). c.cut) course;
      home = refl;
      last = sym (ap (λ (c : Course). c.chunks) course);
    }

pub decided_keeps : (cell : PlainCell) (client server volume number : ℕ) (span : List Record) → (cell.replicas server volume).up ≡ true → number ≡ (last_of volume (cell.replicas server volume).history client).number + 1
    → IsKeptBy (after cell (Does (AtReplica server volume (Decided client number span)))) client server volume number (verdict_of (decision (nodes_of volume (cell.replicas server volume).history) client span))
decided_keeps cell client server volume number span up is =
    let entry = Decided client number span in
    let here = replica_here cell server volume (grown entry (cell.replicas server volume)) in
    let history = (cell.replicas server volume).history in
    let new : Last = record { number = number; verdict = verdict_of (decision (nodes_of volume history) client span) } in
    record {
      up = ap (λ (a : Actor ReplicaEntry). a.up) here ∙ up;
      some = omega (arith, is);
      last = ap (λ (a : Actor ReplicaEntry). last_of volume a.history client) here ∙ ap (λ (k : Kept). k.lasts client) (kept_push volume history entry)
          ∙ ap (λ b. cond b new (last_of volume history client)) (eq-eqb client client refl);
    }
