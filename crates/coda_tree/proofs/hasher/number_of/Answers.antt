use Rattle.std.proofs.Common.{rules}
use Rattle.coda_tree.specs.Hashed.{number_of}
use Rattle.coda_tree.proofs.hasher.number_of.Goals as goal

pub returns : goal.returns
unfolding number_of
returns c = search rules

pub returns-then-bytes-ne4 : goal.returns-then-bytes-ne4
unfolding number_of
returns-then-bytes-ne4 c = search rules
