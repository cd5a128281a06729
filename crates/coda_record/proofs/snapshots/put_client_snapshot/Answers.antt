use Rattle.coda_record.proofs.InEntries.{snapshot_volumes, snapshot_nodes, snapshot_hoard}
use Rattle.coda_record.proofs.snapshots.put_client_snapshot.Goals as goal

pub put_volume_logs-requires : goal.put_volume_logs-requires
put_volume_logs-requires c = rw c.list.ensures (snapshot_volumes c.args.snapshot.now c.requires)

pub put_cached_nodes-requires : goal.put_cached_nodes-requires
put_cached_nodes-requires c = rw c.list-2.ensures (snapshot_nodes c.args.snapshot.now c.requires)

pub put_hoard_entries-requires : goal.put_hoard_entries-requires
put_hoard_entries-requires c = rw c.list-3.ensures (snapshot_hoard c.args.snapshot.now c.requires)
