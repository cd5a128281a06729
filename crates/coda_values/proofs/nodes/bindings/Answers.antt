use Rattle.coda_values.proofs.LastName.{as_bindings}
use Rattle.coda_values.proofs.nodes.bindings.Goals as goal

pub returns : goal.returns
returns c = as_bindings c.pairs.result _ c.args.cursor.now c.pairs.ensures
