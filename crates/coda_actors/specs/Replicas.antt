-- Replicas as actors.
use Rattle.coda_disk.specs.Told.{Told}
use Rattle.coda_journal.specs.declared.header.Kind.TheVariants.{Replica as OfReplica}
use Rattle.coda_record.specs.declared.entry.ReplicaEntry.{ReplicaEntry}
use Rattle.coda_replica.specs.History.{payload_of, MayFollow, IsHistory}
use Rattle.coda_replica.specs.Standing.{IsUp}
use Rattle.coda_replica.specs.declared.replica.Replica.{Replica}
use Rattle.coda_actors.specs.Form.{Form}

-- A replica asks for a header of replicas, and writes one entry at once.
abbrev pub replica_form : {D : Type 0} → (D → Told) → Form (Replica D) D
replica_form told = record {
  owner = OfReplica;
  Entry = ReplicaEntry;
  payload_of = payload_of;
  IsHistory = IsHistory;
  MayFollow = MayFollow;
  disk = λ replica. replica.journal.disk;
  is_down = λ replica. replica.down;
  IsUp = IsUp told;
}
