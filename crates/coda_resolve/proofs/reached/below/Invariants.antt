use Rattle.std.proofs.Common.{reverse}
use Rattle.coda_resolve.specs.Views.{objects_of}
use Rattle.coda_resolve.specs.Reached.{IsSearch}
use Rattle.coda_resolve.proofs.reached.below.Given as goal

abbrev pub invariant-loop : goal.invariant-loop
invariant-loop l = IsSearch (objects_of l.view) l.starts l.seen (reverse l.stack.items)
