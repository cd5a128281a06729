-- What runs of lines leave.
use Rattle.std.proofs.Common.{◌≡◌, ℕ, ◌==◌, ◌&&◌, true, cond, List, length, Option, Some, None, refl, sym, ap, ◌∙◌, subst, inl, inr}
use Rattle.std.proofs.lemmas.Bool.{eq-eqb}
use Rattle.std.specs.Prelude.{IfSome}
use Rattle.coda_actors.specs.Plain.{PlainDisk, PlainActor}
use Rattle.coda_journal.specs.Image.{ReadsAs}
use Rattle.coda_actors.specs.declared.slot.Mounting.TheVariants.{Entries, Foreign, DiskFault, Memory}
use Rattle.coda_plain.specs.Decisions.{ReplicaEntry}
use Rattle.coda_script.specs.declared.reply.Reply.{Reply}
use Rattle.coda_script.specs.declared.reply.Reply.TheVariants.{Recovered}
use Rattle.coda_cell.specs.Refusing.{refusal}
use Rattle.coda_cell.specs.Refused.{Refused}
use Rattle.coda_cell.specs.Steps.{first_missing}
use Rattle.coda_cell.proofs.Families.{put_here}
use Rattle.coda_shelves.specs.Kept.{Decides}
use Rattle.coda_shelves.specs.Shelves.{blank_shelves, found_on}
use Rattle.coda_shelves.specs.Cells.{Cell, begun_on, shelves_of, Stand, stand_of, with_client, with_replica}
use Rattle.coda_shelves.specs.Lines.{Becoming, Unless, the_client, the_replica, Payloads, client_payloads, replica_payloads, Recovers, AtReplicaOf}
use Rattle.coda_shelves.proofs.Keeping.{shelves_are_kept}
use Rattle.coda_shelves.proofs.Placed.{lines_keep_places}
use Rattle.coda_runs.specs.Headline.{WhatRanIsKept, ScriptsRun, ChunksAreDecidedOnce, CertifiedChunksAreApplied, ConflictsNameASentRecord, OperationsAreKept, VolumesInOneRowAreDoneOnce, SettlementsAreDecided, LogsArePending, AcknowledgedEntriesStay, IsFoundAgain, IsReadFromImage, ClientsComeBack, ReplicasComeBack}
use Rattle.coda_runs.proofs.Shelved.{runs_kept, runs_placed, runs_stay, pending_in, runs_go_on, runs_from_blank_go_on}

pub what_ran_is_kept : WhatRanIsKept
what_ran_is_kept shelves cell ls report outside kept run =
    let begun = shelves_are_kept.begins shelves kept in
    (runs_kept (begun_on shelves) cell ls report outside begun run, runs_placed (begun_on shelves) cell ls report outside begun (lines_keep_places.first shelves) run)

pub scripts_run : ScriptsRun
scripts_run = record {
  has_run = λ cell ls report outside run. runs_go_on blank_shelves cell ls report outside shelves_are_kept.blank run;
  promised = runs_from_blank_go_on;
}

pub chunks_are_decided_once : ChunksAreDecidedOnce
chunks_are_decided_once cell kept joins = (shelves_are_kept.promised _ kept.shelves joins).once

pub certified_chunks_are_applied : CertifiedChunksAreApplied
certified_chunks_are_applied cell kept joins row server volume d nodes decides whole = ((shelves_are_kept.promised _ kept.shelves joins).just row server volume d decides).certified nodes whole

pub conflicts_name_a_sent_record : ConflictsNameASentRecord
conflicts_name_a_sent_record cell kept joins row server volume d refused why decides conflict = ((shelves_are_kept.promised _ kept.shelves joins).just row server volume d decides).conflict refused why conflict

pub operations_are_kept : OperationsAreKept
operations_are_kept cell kept joins client volume = (shelves_are_kept.promised _ kept.shelves joins).kept client volume

pub volumes_in_one_row_are_done_once : VolumesInOneRowAreDoneOnce
volumes_in_one_row_are_done_once = record {
  applied = λ cell kept joins client volume home row server d alone decides own applied. elim ((operations_are_kept cell kept joins client volume).applied row server d decides own applied) [
    | inl ended ↦ inl ended
    | inr (inl under_way) ↦ inr under_way
    | inr (inr other) ↦ absurd (other.differs (alone other.other other.server other.there.0 ∙ sym (alone row server decides.0)))
  ];
  once = λ cell kept joins volume home row server other at first second alone a b client number.
      let same : row ≡ other = alone row server a.0 ∙ sym (alone other at b.0) in
      (same, (chunks_are_decided_once cell kept joins).there volume row server at first second a (subst (λ r. Decides (found_on (shelves_of cell) joins) r at volume second) (sym same) b) client number);
}

pub settlements_are_decided : SettlementsAreDecided
settlements_are_decided cell kept joins client volume s i = (shelves_are_kept.promised _ kept.shelves joins).settled client volume s i

pub logs_are_pending : LogsArePending
logs_are_pending cell kept client volume c is = pending_in cell kept client volume c is

pub acknowledged_entries_stay : AcknowledgedEntriesStay
acknowledged_entries_stay cell later ls report outside run = runs_stay cell later ls report outside run

-- ---- recoveries

-- at its place, the other actor of a family of replicas
pub place_is : {A : Type 0} (f : ℕ → ℕ → A) (row server : ℕ) (x : A) → cond ((row == row) && (server == server)) x (f row server) ≡ x
place_is f row server x = ap (λ b. cond (b && (server == server)) x (f row server)) (eq-eqb row row refl) ∙ ap (λ b. cond (true && b) x (f row server)) (eq-eqb server server refl)

module _ (count : ℕ) where
  not_refused : (why : Refused) → (let r : Reply = Recovered count in r) ≡ refusal why → ⊥
  not_refused why e = cc

  unless_recovered : {A : Type 0} (old : Cell) (o : Option Refused) (own : Becoming) (outside : List (List ℕ)) (new : Cell) → (own (Recovered count) outside new → A) → Unless old o own (Recovered count) outside new → A
  unless_recovered old (Some why) own outside new rest does = absurd (not_refused why does.0)
  unless_recovered old None own outside new rest does = rest does

  -- what a recovery leaves that is answered so
  found_again : {E : Type 0} (payloads : PlainDisk E → Payloads) (old : PlainActor E) (goes : PlainActor E → Cell) (outside : List (List ℕ)) (new : Cell) → Recovers payloads old goes (Recovered count) outside new
      → (actor : PlainActor E) × IsFoundAgain old.disk actor.disk × (count ≡ length actor.disk.history) × (new ≡ goes actor) × IsReadFromImage payloads old actor.disk
  found_again payloads old goes outside new (header, is, (Entries entries, disk, told, mounts, from, says, out, next)) =
      (_, mounts.0.history, (let same : count ≡ entries = cc in same ∙ mounts.1), next, (header, is, λ image left. subst (λ (o : Option (List ℕ)). IfSome o (ReadsAs header (payloads disk).all)) left from))
  found_again payloads old goes outside new (header, is, (Foreign at, disk, told, mounts, from, says, out, next)) = cc
  found_again payloads old goes outside new (header, is, (DiskFault, disk, told, mounts, from, says, out, next)) = cc
  found_again payloads old goes outside new (header, is, (Memory, disk, told, mounts, from, says, out, next)) = cc

pub clients_come_back : ClientsComeBack
clients_come_back cell client count outside new happens = unless_recovered count cell (first_missing (the_client cell client).named) (Recovers client_payloads (cell.clients client) (with_client cell client)) outside new (λ did.
    let f = found_again count client_payloads (cell.clients client) (with_client cell client) outside new did in
    let here : new.clients client ≡ f.0 = ap (λ (c : Cell). c.clients client) f.3 ∙ put_here cell.clients client f.0 in
    subst (λ (a : PlainActor _). IsFoundAgain (cell.clients client).disk a.disk × (count ≡ length a.disk.history) × IsReadFromImage client_payloads (cell.clients client) a.disk) (sym here) (f.1, f.2, f.4)) happens

pub replicas_come_back : ReplicasComeBack
replicas_come_back cell server volume count outside new happens =
    unless_recovered count cell (first_missing (the_replica cell server volume).named) (AtReplicaOf cell (stand_of cell volume) server (Recovers replica_payloads)) outside new (λ did. by (stand_of cell volume) refl did) happens
  where
    by : (o : Option Stand) → stand_of cell volume ≡ o → AtReplicaOf cell o server (Recovers replica_payloads) (Recovered count) outside new
        → (at : Stand) × (stand_of cell volume ≡ Some at) × IsFoundAgain (cell.replicas at.row server).disk (new.replicas at.row server).disk × (count ≡ length (new.replicas at.row server).disk.history)
        × IsReadFromImage replica_payloads (cell.replicas at.row server) (new.replicas at.row server).disk
    by None e did = absurd did
    by (Some at) e did =
        let f = found_again count replica_payloads (cell.replicas at.row server) (with_replica cell at.row server) outside new did in
        let here : new.replicas at.row server ≡ f.0 = ap (λ (c : Cell). c.replicas at.row server) f.3 ∙ place_is cell.replicas at.row server f.0 in
        let both = subst (λ (a : PlainActor ReplicaEntry). IsFoundAgain (cell.replicas at.row server).disk a.disk × (count ≡ length a.disk.history) × IsReadFromImage replica_payloads (cell.replicas at.row server) a.disk) (sym here) (f.1, f.2, f.4) in
        (at, e, both.0, both.1, both.2)
