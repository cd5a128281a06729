-- Disks on which replicas with one header alone wrote.
use Rattle.std.proofs.Common.{ℕ, List, [], ◌∷◌, ◌++◌, inl, inr, sym, subst}
use Rattle.std.specs.Prelude.{Some}
use Rattle.coda_disk.specs.Told.{Told, LeavesOnly}
use Rattle.coda_disk.specs.Bays.{Crashed}
use Rattle.coda_journal.specs.Image.{Reads, ReadsAs}
use Rattle.coda_journal.specs.Journal.{IsBeforeOrAfter}
use Rattle.coda_journal.specs.Open.{IsOpen, MayBe, Stands, IsOurs}
use Rattle.coda_journal.specs.declared.header.Header.{Header}
use Rattle.coda_journal.proofs.Moments.{started}
use Rattle.coda_record.specs.declared.entry.ReplicaEntry.{ReplicaEntry}
use Rattle.coda_replica.specs.History.{payload_of, payloads_of}
use Rattle.coda_replica.specs.Standing.{IsUp, StandsFor, ReadsAsHistory, IsReplicaDisk}
use Rattle.coda_replica.specs.declared.replica.Replica.{Replica}
use Rattle.coda_replica.proofs.Growing.{payloads_push, history_push}

pub up_ours : {D : Type 0} (told : D → Told) (header : Header) (replica : Replica D) (history : List ReplicaEntry) → IsUp told header replica history → IsReplicaDisk header (told replica.journal.disk)
up_ours told header replica history up image may =
    (history, (up.lawful, inr (subst (λ (c : List ℕ). Reads header c (payloads_of history)) (sym (up.journal.durable image may)) up.journal.reads)))

pub failed_ours : (told : Told) (header : Header) (history : List ReplicaEntry) (entry : ReplicaEntry) → StandsFor told header history (Some entry) → IsReplicaDisk header told
failed_ours told header history entry s image may = by (s.images.each image may)
  where
    by : MayBe header (payloads_of history) (Some (payload_of entry)) image → (h : List ReplicaEntry) × ReadsAsHistory header image h
    by (inl before) = (history, (s.lawful, before))
    by (inr after) = (history ++ entry ∷ [], (history_push header history entry s.lawful s.next, subst (λ (ps : List (List ℕ)). ReadsAs header ps image) (sym (payloads_push history entry)) after))

pub crashed_ours : (old new : Told) (header : Header) (image : List ℕ) → IsReplicaDisk header old → Crashed image old new → IsReplicaDisk header new
crashed_ours old new header image ours crashed c may = subst (λ (l : List ℕ). (h : List ReplicaEntry) × ReadsAsHistory header l h) (sym (crashed.only c may)) (ours image crashed.allowed)

-- what is a replica's disk holds lists under its header
pub as_ours : (header : Header) (told : Told) → IsReplicaDisk header told → IsOurs header told
as_ours header told ours image may = let found = ours image may in (payloads_of found.0, found.1.1)

-- a call that doesn't come to the disk
pub idle : (told : Told) (header : Header) (start used area : ℕ) (payloads : List (List ℕ)) (payload : List ℕ) → IsOpen told header start used area payloads
    → ((c : List ℕ) → told.honest → told.left_since told.moment c → told.may_leave c) → LeavesOnly told told (IsBeforeOrAfter header payloads payload)
idle told header start used area payloads payload is only_now =
    started told (IsBeforeOrAfter header payloads payload) (λ c left. inl (subst (λ (l : List ℕ). Reads header l payloads) (sym (is.durable c (only_now c is.honest left))) is.reads))
