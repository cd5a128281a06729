use Rattle.std.proofs.Common.{ℕ, false, List, ap}
use Rattle.coda_tree.specs.declared.node.Node.{Node}
use Rattle.coda_tree.specs.declared.node.NodeKind.TheVariants.{Link}
use Rattle.coda_cache.proofs.walking.blank.Goals as goal

abbrev link_to : List ℕ → Node
link_to target = record { kind = Link target; mode = 0; owner = 0; mtime = 0; sid = record { client = 0; number = 0 }; marked = false }

pub returns : goal.returns
returns c = ap link_to c.in_ok-target.ensures
