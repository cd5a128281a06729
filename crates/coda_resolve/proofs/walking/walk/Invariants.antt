use Rattle.std.proofs.Common.{◌≡◌, ◌++◌, reverse}
use Rattle.std.specs.List.{flat_map}
use Rattle.coda_resolve.specs.Placement.{AreTreesOfOneKind}
use Rattle.coda_resolve.specs.Outcome.{walk, levels_of, taken_up}
use Rattle.coda_resolve.specs.Taken.{fids_of, AreFates}
use Rattle.coda_resolve.specs.Views.{replicas_of}
use Rattle.coda_resolve.proofs.Stack.{AllBelow}
use Rattle.coda_resolve.proofs.walking.walk.Given as goal

-- what was met, and what is met from the pending objects on, is all that is taken up
abbrev pub invariant-loop : goal.invariant-loop
invariant-loop l = record {
  below : AreTreesOfOneKind (replicas_of l.views) l.fn.root → AllBelow (replicas_of l.views) l.fn.root (reverse l.stack.items);
  all : AreTreesOfOneKind (replicas_of l.views) l.fn.root → fids_of l.taken.items ++ flat_map (walk (levels_of (replicas_of l.views)) (replicas_of l.views)) (reverse l.stack.items) ≡ taken_up (replicas_of l.views) l.fn.root;
  fates : AreFates (replicas_of l.views) l.taken.items;
}
