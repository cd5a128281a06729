use Rattle.std.proofs.Common.{◌≡◌, drop}
use Rattle.coda_fid.specs.Fid.{root_of}
use Rattle.coda_tree.specs.Lookup.{lookup_of}
use Rattle.coda_tree.proofs.volume.Volume.walked.Given as goal

abbrev pub invariant-loop-component : goal.invariant-loop-component
invariant-loop-component l = lookup_of l.self.nodes l.at l.component (drop l.component l.names) ≡ lookup_of l.self.nodes (root_of l.self.number) 0 l.path
