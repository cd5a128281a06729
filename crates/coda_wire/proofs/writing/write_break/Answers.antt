use Rattle.coda_wire.proofs.Spans.{break_fids}
use Rattle.coda_wire.proofs.writing.write_break.Goals as goal

pub length_of_break-requires : goal.length_of_break-requires
length_of_break-requires c = break_fids c.args.server c.args.client c.args.volume c.args.fids.now c.requires

pub put_fids-requires : goal.put_fids-requires
put_fids-requires c = break_fids c.args.server c.args.client c.args.volume c.args.fids.now c.requires
