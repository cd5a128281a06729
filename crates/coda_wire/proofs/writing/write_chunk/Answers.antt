use Rattle.coda_wire.proofs.Spans.{chunk_records}
use Rattle.coda_wire.proofs.writing.write_chunk.Goals as goal

pub length_of_chunk-requires : goal.length_of_chunk-requires
length_of_chunk-requires c = chunk_records c.args.client c.args.server c.args.volume c.args.number c.args.recs.now c.requires
