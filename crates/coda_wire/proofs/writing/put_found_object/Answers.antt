use Rattle.coda_wire.proofs.Spans.{object_node}
use Rattle.coda_wire.proofs.writing.put_found_object.Goals as goal

pub put_node-requires : goal.put_node-requires
put_node-requires c = object_node c.args.object.now c.requires
