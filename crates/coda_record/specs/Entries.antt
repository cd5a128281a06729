-- The formats of what journals keep, version 1, each under its line of the table.
use Rattle.std.specs.Prelude.{ℕ, ◌&&◌, Bool, nat_lt, nat_le, List, [], ◌∷◌, Option, Some, None}
use Rattle.coda_fid.specs.declared.fid.Fid.{Fid}
use Rattle.coda_tree.specs.declared.node.Node.{Node}
use Rattle.coda_record.specs.declared.entry.ClientEntry.{ClientEntry}
use Rattle.coda_record.specs.declared.entry.ClientEntry.TheVariants as client_entries
use Rattle.coda_record.specs.declared.entry.ReplicaEntry.{ReplicaEntry}
use Rattle.coda_record.specs.declared.entry.ReplicaEntry.TheVariants as replica_entries
use Rattle.coda_record.specs.declared.snapshot.ClientSnapshot.{ClientSnapshot}
use Rattle.coda_record.specs.declared.snapshot.VolumeLog.{VolumeLog}
use Rattle.coda_record.specs.declared.snapshot.LogSegment.{LogSegment}
use Rattle.coda_values.specs.Form.{Piece, together, Size, Form, gives, Format, ◌>>=◌}
use Rattle.coda_values.specs.Parts.{u8, u32, u64, where_holds, one_of, optional, list, list_of}
use Rattle.coda_values.specs.Held.{fid_after, objects, change}
use Rattle.coda_record.specs.Table.{client, server, volume, count, ordinal, fid, record_above, records, verdict, lasts}
use Rattle.coda_record.specs.Hoard.{hoard_entry, hoard_change}
pub use Rattle.coda_values.specs.Nodes.{comes_after, last_name, kind_of, held_piece}
unfoldable pub use Rattle.coda_values.specs.Nodes.{binding_after, pairs, bindings, node}

-- ---- client snapshot: u64 count, list of volumes, list of cached nodes, list of hoard entries

-- segment: u64 first, u64 last, u64 newest time, records
unfoldable pub segment : Size → Format LogSegment
segment size = record {
  form = do
    first ← ordinal
    last ← ordinal
    newest ← u64
    recs ← records size
    gives (record { first = first; last = last; newest = newest; recs = recs });
  piece = λ s. together (ordinal.piece s.first ∷ ordinal.piece s.last ∷ u64.piece s.newest ∷ (records size).piece s.recs ∷ []);
}

-- frozen: u8 home, u32 segments
unfoldable pub frozen : Format (ℕ × ℕ)
frozen = record {
  form = do
    home ← server
    segments ← u32
    gives (home, segments);
  piece = λ f. together (server.piece f.0 ∷ u32.piece f.1 ∷ []);
}

-- whether a volume may stand behind another
abbrev pub volume_follows : ℕ → ℕ → Bool
volume_follows before v = nat_lt before v && nat_le v 4294967295

-- the log of a volume that stands behind another
unfoldable pub volume_log_above : Size → ℕ → Format VolumeLog
volume_log_above size before = record {
  form = do
    v ← where_holds (volume_follows before) u32
    operations ← count
    chunks ← count
    creations ← u32
    f ← optional frozen
    segments ← list_of (segment size)
    gives (record { volume = v; operations = operations; chunks = chunks; creations = creations; frozen = f; segments = segments });
  piece = λ l. together ((where_holds (volume_follows before) u32).piece l.volume ∷ count.piece l.operations ∷ count.piece l.chunks ∷ u32.piece l.creations ∷ (optional frozen).piece l.frozen ∷ (list_of (segment size)).piece l.segments ∷ []);
}

-- the logs of volumes, in increasing order of these
unfoldable pub volume_logs : Size → Format (List VolumeLog)
volume_logs size = list (volume_log_above size) (λ l. l.volume) 0

-- a cached object behind another, its parent, and its node
unfoldable pub cached_after : Size → Option Fid → Format (Fid × Option Fid × Node)
cached_after size before = record {
  form = do
    f ← fid_after before
    parent ← optional fid
    n ← node size
    gives (f, parent, n);
  piece = λ o. together ((fid_after before).piece o.0 ∷ (optional fid).piece o.1 ∷ (node size).piece o.2 ∷ []);
}

-- cached objects, in increasing order of their fids
unfoldable pub cached_nodes : Size → Format (List (Fid × Option Fid × Node))
cached_nodes size = list (cached_after size) (λ o. Some o.0) None

-- what stands for all entries of a client so far
unfoldable pub client_snapshot : Size → Format ClientSnapshot
client_snapshot size = record {
  form = do
    n ← count
    volumes ← volume_logs size
    nodes ← cached_nodes size
    hoard ← list_of (hoard_entry size)
    gives (record { count = n; volumes = volumes; nodes = nodes; hoard = hoard });
  piece = λ s. together (count.piece s.count ∷ (volume_logs size).piece s.volumes ∷ (cached_nodes size).piece s.nodes ∷ (list_of (hoard_entry size)).piece s.hoard ∷ []);
}

-- ---- client entries: u8 tag, then the fields

-- how an entry of a client is written
abbrev pub client_entry_piece : Size → ClientEntry → Piece
client_entry_piece size (client_entries.Op v rec) = together (u8.piece 1 ∷ volume.piece v ∷ (record_above size 0).piece rec ∷ [])
client_entry_piece size (client_entries.Freeze v n home last) = together (u8.piece 2 ∷ volume.piece v ∷ ordinal.piece n ∷ server.piece home ∷ ordinal.piece last ∷ [])
client_entry_piece size (client_entries.Settled v n a) = together (u8.piece 3 ∷ volume.piece v ∷ ordinal.piece n ∷ verdict.piece a ∷ [])
client_entry_piece size (client_entries.Giveup v) = together (u8.piece 4 ∷ volume.piece v ∷ [])
client_entry_piece size (client_entries.Fetched f parent n) = together (u8.piece 5 ∷ fid.piece f ∷ (optional fid).piece parent ∷ (node size).piece n ∷ [])
client_entry_piece size (client_entries.Dropped f) = together (u8.piece 6 ∷ fid.piece f ∷ [])
client_entry_piece size (client_entries.Hoard c) = together (u8.piece 7 ∷ (hoard_change size).piece c ∷ [])
client_entry_piece size (client_entries.Snapshot s) = together (u8.piece 8 ∷ (client_snapshot size).piece s ∷ [])

-- what stands behind each tag of a client's entry
abbrev pub client_entry_forms : Size → List (ℕ × Form ClientEntry)
client_entry_forms size =
    ((1, volume >>= λ v. record_above size 0 >>= λ rec. gives (client_entries.Op v rec))
    ∷ (2, volume >>= λ v. ordinal >>= λ n. server >>= λ home. ordinal >>= λ last. gives (client_entries.Freeze v n home last))
    ∷ (3, volume >>= λ v. ordinal >>= λ n. verdict >>= λ a. gives (client_entries.Settled v n a))
    ∷ (4, volume >>= λ v. gives (client_entries.Giveup v))
    ∷ (5, fid >>= λ f. optional fid >>= λ parent. node size >>= λ n. gives (client_entries.Fetched f parent n))
    ∷ (6, fid >>= λ f. gives (client_entries.Dropped f))
    ∷ (7, hoard_change size >>= λ c. gives (client_entries.Hoard c))
    ∷ (8, client_snapshot size >>= λ s. gives (client_entries.Snapshot s))
    ∷ [])

-- an entry of a client
unfoldable pub client_entry : Size → Format ClientEntry
client_entry size = record {
  form = one_of (client_entry_forms size);
  piece = client_entry_piece size;
}

-- a payload of a client: list of client entries
unfoldable pub client_payload : Size → Format (List ClientEntry)
client_payload size = list_of (client_entry size)

-- ---- replica entries: u8 tag, then the fields

-- a chunk that was decided: u8 client, u64 number, records, verdict
unfoldable pub decide_form : Size → Form ReplicaEntry
decide_form size = do
  c ← client
  n ← ordinal
  recs ← records size
  v ← verdict
  gives (replica_entries.Decide c n recs v)

-- how an entry of a replica is written
abbrev pub replica_entry_piece : Size → ReplicaEntry → Piece
replica_entry_piece size (replica_entries.Decide c n recs v) = together (u8.piece 1 ∷ client.piece c ∷ ordinal.piece n ∷ (records size).piece recs ∷ verdict.piece v ∷ [])
replica_entry_piece size (replica_entries.Resolve c ls) = together (u8.piece 2 ∷ (change size).piece c ∷ lasts.piece ls ∷ [])
replica_entry_piece size (replica_entries.Repair c ls) = together (u8.piece 3 ∷ (change size).piece c ∷ lasts.piece ls ∷ [])
replica_entry_piece size (replica_entries.Snapshot n os ls) = together (u8.piece 4 ∷ count.piece n ∷ (objects size).piece os ∷ lasts.piece ls ∷ [])

-- what stands behind each tag of a replica's entry
abbrev pub replica_entry_forms : Size → List (ℕ × Form ReplicaEntry)
replica_entry_forms size =
    ((1, decide_form size)
    ∷ (2, change size >>= λ c. lasts >>= λ ls. gives (replica_entries.Resolve c ls))
    ∷ (3, change size >>= λ c. lasts >>= λ ls. gives (replica_entries.Repair c ls))
    ∷ (4, count >>= λ n. objects size >>= λ os. lasts >>= λ ls. gives (replica_entries.Snapshot n os ls))
    ∷ [])

-- an entry of a replica
unfoldable pub replica_entry : Size → Format ReplicaEntry
replica_entry size = record {
  form = one_of (replica_entry_forms size);
  piece = replica_entry_piece size;
}
