use Rattle.coda_record.proofs.InEntries.{segment_records}
use Rattle.coda_record.proofs.snapshots.put_segment.Goals as goal

pub put_records-requires : goal.put_records-requires
put_records-requires c = rw c.records.ensures (segment_records c.args.segment.now c.requires)
