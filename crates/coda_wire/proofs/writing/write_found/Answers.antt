use Rattle.coda_wire.proofs.Spans.{found_fits}
use Rattle.coda_wire.proofs.writing.write_found.Goals as goal

pub put_optional_found_object-requires : goal.put_optional_found_object-requires
put_optional_found_object-requires c = found_fits c.args.server c.args.client c.args.fid c.args.found.now c.requires
