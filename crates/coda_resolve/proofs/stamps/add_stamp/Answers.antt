use Rattle.std.proofs.Common.{refl}
use Rattle.coda_resolve.proofs.Stamped.{stamp_added}
use Rattle.coda_resolve.proofs.stamps.add_stamp.Goals as goal

pub returns : goal.returns
returns c = stamp_added c.args.stamps.now c.insert.new.self c.args.update.now _ refl refl c.in_ok-insert.ensures.updates
