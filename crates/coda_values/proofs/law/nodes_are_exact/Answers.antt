use Rattle.coda_values.specs.Nodes.{node}
use Rattle.coda_values.proofs.Offsets.{agreeing_is_exact}
use Rattle.coda_values.proofs.NodesAgree.{node_agrees}
use Rattle.coda_values.proofs.law.nodes_are_exact.Goals as goal

pub returns : goal.returns
returns c = λ size. agreeing_is_exact (node size) (node_agrees size)
