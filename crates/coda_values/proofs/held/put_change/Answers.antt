use Rattle.coda_values.proofs.Objects.{change_objects, change_gone}
use Rattle.coda_values.proofs.held.put_change.Goals as goal

pub put_objects-requires : goal.put_objects-requires
put_objects-requires c = rw c.objects.ensures (change_objects c.args.change.now c.requires)

pub put_fids-requires : goal.put_fids-requires
put_fids-requires c = rw c.fids.ensures (change_gone c.args.change.now c.requires)
