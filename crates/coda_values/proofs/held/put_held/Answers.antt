use Rattle.coda_values.proofs.Objects.{held_node}
use Rattle.coda_values.proofs.held.put_held.Goals as goal

pub put_node-requires : goal.put_node-requires
put_node-requires c = held_node c.args.held.now c.requires
